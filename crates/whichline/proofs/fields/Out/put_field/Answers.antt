use Rattle.whichline.proofs.PlaceLaws.{field_quoted, bytes_end}
use Rattle.whichline.proofs.fields.Out.put_field.Goals as goal

pub returns-clause-value : goal.returns-clause-value
returns-clause-value c =
    field_quoted _ _ _ _ _ c.if-is_plain.ensures c.put-2.ensures.value (bytes_end _ _ _ _ c.loop-b-test.false c.loop-b.invariant.left) c.put-3.ensures.value

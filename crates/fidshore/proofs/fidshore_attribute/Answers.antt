-- `fidshore::fidshore_attribute` meets its contract: the code is the number of what the question answers over the one file.
use Rattle.answers.specs.Complete.{complete_attribute}
use Rattle.answers.proofs.CompleteLaws.{attribute_number}
use Rattle.fidshore.proofs.fidshore_attribute.Goals as goal

pub returns : goal.returns
returns c = record { answer = complete_attribute c.attribute.result; answered = c.attribute.ensures; coded = attribute_number _ _ c.attribute_code.ensures.decided c.attribute_code.ensures.refused }

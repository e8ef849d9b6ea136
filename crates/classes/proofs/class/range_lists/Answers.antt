-- `classes::class::range_lists` meets its contract: y is tested where the range does not list x.
use mathlib.Core.Path.{sym, ◌∙◌}
use Rattle.classes.proofs.class.range_lists.Goals as goal

pub returns-then-range_has : goal.returns-then-range_has
returns-then-range_has c = rw (sym c.range_has.ensures ∙ c.if-range_has.true) c.if-range_has.true

pub returns-else-range_has : goal.returns-else-range_has
returns-else-range_has c = rw (sym c.range_has.ensures ∙ c.if-range_has.false) c.range_has-else-range_has.ensures

-- `classes::class::name_lists` meets its contract: y is tested where the name does not list x, and only if it is another byte.
use mathlib.Core.Path.{refl, sym, ◌∙◌}
use Rattle.classes.specs.Members.{lists}
use Rattle.classes.proofs.class.name_lists.Goals as goal

pub returns-then-name_has : goal.returns-then-name_has
unfolding lists
returns-then-name_has c = rw (sym c.name_has.ensures ∙ c.if-name_has.true) refl

pub returns-then-x-y : goal.returns-then-x-y
unfolding lists
returns-then-x-y c = rw (← c.if-x-y.true, sym c.name_has.ensures ∙ c.if-name_has.false) refl

pub returns : goal.returns
unfolding lists
returns c =
    rw (sym c.name_has.ensures ∙ c.if-name_has.false) c.name_has-2.ensures

-- `classes::class::range_has` meets its contract: each return settles the tests of the clause of `lists` for a range.
use mathlib.Core.Path.{refl}
use borrow.Author.Tests.{eq-eqb, ne_eqb, le-leb, lt-leb}
use Rattle.classes.specs.Members.{lists}
use Rattle.classes.proofs.class.range_has.Goals as goal

pub returns-then-x-a : goal.returns-then-x-a
unfolding lists
returns-then-x-a c = rw (eq-eqb _ _ c.if-x-a.true) refl

pub returns-then-a-x : goal.returns-then-a-x
unfolding lists
returns-then-a-x c = rw (ne_eqb _ _ c.if-x-a.false, le-leb _ _ c.if-a-x.true) refl

pub returns-else-a-x : goal.returns-else-a-x
unfolding lists
returns-else-a-x c = rw (ne_eqb _ _ c.if-x-a.false, lt-leb _ _ c.if-a-x.false) refl

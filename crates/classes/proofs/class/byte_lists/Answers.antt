-- `classes::class::byte_lists` meets its contract: each return is the clause of `lists` for a byte, at x or y.
use mathlib.Core.Path.{refl}
use borrow.Author.Tests.{eq-eqb, ne_eqb}
use Rattle.classes.specs.Members.{lists}
use Rattle.classes.proofs.class.byte_lists.Goals as goal

pub returns-then-x-b : goal.returns-then-x-b
unfolding lists
returns-then-x-b c = rw (eq-eqb _ _ c.if-x-b.true) refl

pub returns-else-x-b : goal.returns-else-x-b
unfolding lists
returns-else-x-b c = rw (ne_eqb _ _ c.if-x-b.false) refl

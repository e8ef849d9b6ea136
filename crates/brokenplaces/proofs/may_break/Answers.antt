-- `brokenplaces::may_break` meets its contract: one test for each of the two bytes.
use Rattle.brokenplaces.specs.inner.ItemSizes.{may_break}
use borrow.Author.Tests.{eq-eqb, ne_eqb}
use Rattle.brokenplaces.proofs.may_break.Goals as goal

pub returns-then-c-eq92 : goal.returns-then-c-eq92
unfolding may_break
returns-then-c-eq92 c = rw (eq-eqb _ _ c.if-c-eq92.true)

pub returns-else-c-eq92 : goal.returns-else-c-eq92
unfolding may_break
returns-else-c-eq92 c = rw (ne_eqb _ _ c.if-c-eq92.false)

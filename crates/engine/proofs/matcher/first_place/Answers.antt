-- `engine::matcher::first_place` meets its contract: the start, or after the first `/`.
use Rattle.engine.specs.inner.Outcomes.{FirstPlace}
use borrow.Author.Rules.{rules}
use Rattle.engine.proofs.matcher.first_place.Goals as goal

pub returns-then-here : goal.returns-then-here
unfolding FirstPlace
returns-then-here c = rw c.if-here.true (search rules)

pub returns-else-here : goal.returns-else-here
unfolding FirstPlace
returns-else-here c = rw c.if-here.false c.after_slash.ensures

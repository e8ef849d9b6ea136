-- `questionrefusals::rules::rules_long` meets its contract: the test is the condition.
use borrow.Author.Tests.{ltb-true, lt-ltb}
use Rattle.questionrefusals.proofs.rules.rules_long.Goals as goal

pub returns : goal.returns
returns c = (ltb-true _ _, lt-ltb _ _)

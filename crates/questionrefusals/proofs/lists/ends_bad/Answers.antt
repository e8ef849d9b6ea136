-- `questionrefusals::lists::ends_bad` meets its contract: the ends fall somewhere, or the last one decides.
use Rattle.questionrefusals.proofs.ListLaws.{ends_unsorted}
use Rattle.questionrefusals.proofs.lists.ends_bad.Goals as goal

pub returns-then-not-is_sorted : goal.returns-then-not-is_sorted
returns-then-not-is_sorted c = ends_unsorted _ _ c.is_sorted.ensures.cases c.if-not-is_sorted.true c.args.n

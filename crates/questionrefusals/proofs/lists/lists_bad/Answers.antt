-- `questionrefusals::lists::lists_bad` meets its contract: each test is the condition.
use Rattle.std.proofs.Common.{arith}
use Rattle.questionrefusals.proofs.ListLaws.{lists_bases}
use Rattle.questionrefusals.proofs.lists.lists_bad.Goals as goal

pub returns : goal.returns
returns c =
    lists_bases _ _ _ _ _ c.ends_bad.ensures (omega arith) c.if-files-gt-FILES_LIMIT.false c.if-ends_bad.false _ c.bases_bad.ensures

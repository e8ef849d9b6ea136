-- `verdicts::topdown::first_ignored_parent` meets its contract: the entry's length falls at each call; the parent's own parents come first.
use Rattle.std.proofs.Common.{length}
use Rattle.verdicts.proofs.topdown.+first_ignored_parent.Given as goal

abbrev pub decreases-first_ignored_parent : goal.decreases-first_ignored_parent
decreases-first_ignored_parent l = length l.entry.now

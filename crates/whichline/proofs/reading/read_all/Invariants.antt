-- The room left falls, and the place stays within the part.
use Rattle.std.proofs.Common.{◌-◌, ◌≤◌, length}
use Rattle.whichline.proofs.reading.read_all.Given as goal

abbrev pub invariant-loop-at : goal.invariant-loop-at
invariant-loop-at l = l.at ≤ length l.part

abbrev pub decreases-loop-at : goal.decreases-loop-at
decreases-loop-at l = length l.part - l.at

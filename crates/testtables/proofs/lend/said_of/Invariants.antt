-- What is left of the sheet falls.
use Rattle.std.proofs.Common.{length}
use Rattle.testtables.proofs.lend.said_of.Given as goal

abbrev pub decreases-loop-at : goal.decreases-loop-at
decreases-loop-at l = length l.rest

-- The arguments left fall.
use Rattle.std.proofs.Common.{◌-◌}
use Rattle.whichline.proofs.given.Given.take_all.Given as goal

abbrev pub decreases-loop-i : goal.decreases-loop-i
decreases-loop-i l = l.n - l.i

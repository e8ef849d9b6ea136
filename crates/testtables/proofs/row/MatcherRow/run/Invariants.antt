-- At most one answer differs a turn, so the count fits.
use Rattle.std.proofs.Common.{◌≤◌}
use Rattle.testtables.proofs.row.MatcherRow.run.Given as goal

abbrev pub invariant-loop-i : goal.invariant-loop-i
invariant-loop-i l = l.differ ≤ l.i

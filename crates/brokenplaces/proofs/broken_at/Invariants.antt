-- `brokenplaces::broken_at` meets its contract: the place from the i-th byte on, counted from the start, is the pattern's.
use Prim.Native.Nat.{◌≤◌, ◌-◌}
use lib.ListN.{length}
use Rattle.brokenplaces.proofs.BrokenLaws.{Left}
use Rattle.brokenplaces.proofs.broken_at.Given as goal

abbrev pub invariant-loop-i : goal.invariant-loop-i
invariant-loop-i l = (l.i ≤ length l.pattern) × Left l.pattern l.i

abbrev pub decreases-loop-i : goal.decreases-loop-i
decreases-loop-i l = length l.pattern - l.i

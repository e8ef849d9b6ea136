-- `classes::class::scan_members` meets its contract: what was found in the first i bytes, joined with what the rest gives, is the whole answer.
use Prim.Native.Nat.{◌+◌, ◌-◌, ◌≤◌}
use lib.ListN.{length}
use Rattle.classes.specs.inner.Scan.{PlainTo}
use Rattle.classes.proofs.ScanLaws.{Left}
use Rattle.classes.proofs.class.scan_members.Given as goal

abbrev pub invariant-loop-i : goal.invariant-loop-i
invariant-loop-i l = (l.i ≤ length l.q) × Left l.q l.x l.y l.i l.hit × PlainTo l.q (l.i + 2) (l.plain + 1)

abbrev pub decreases-loop-i : goal.decreases-loop-i
decreases-loop-i l = length l.q - l.i

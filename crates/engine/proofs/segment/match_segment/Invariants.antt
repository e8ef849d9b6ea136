-- `engine::segment::match_segment` meets its contract: whatever an outcome means for what is left, it means for the whole; each turn is one law.
use Rattle.engine.proofs.SegmentLaws.{Along}
use Prim.Native.Nat.{◌-◌}
use lib.ListN.{length}
use Rattle.engine.proofs.segment.match_segment.Given as goal

abbrev pub invariant-loop-i : goal.invariant-loop-i
invariant-loop-i l = Along l.m l.p l.t l.i l.j

abbrev pub decreases-loop-i : goal.decreases-loop-i
decreases-loop-i l = length l.p - l.i

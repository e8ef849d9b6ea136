-- The item matcher and the run matcher, which call each other, meet their contracts; what is left of pattern and text falls as a pair.
use Rattle.std.proofs.Common.{length, ◌+◌, ◌-◌, ◌*◌}
use mathlib.Core.Bool.{true}
use Rattle.engine.proofs.CrossLaws.{Cross}
use Rattle.engine.proofs.ReachLaws.{Reached}
use Rattle.engine.proofs.matcher.+match_crossing_match_items.Given as goal

abbrev pub decreases-match_crossing : goal.decreases-match_crossing
decreases-match_crossing l = 2 * (length l.p.now + length l.t.now) + 1

abbrev pub decreases-match_items : goal.decreases-match_items
decreases-match_items l = 2 * (length l.p.now + length l.t.now)

abbrev pub invariant-match_crossing-loop-k : goal.invariant-match_crossing-loop-k
invariant-match_crossing-loop-k l = Cross l.m l.here l.p l.t l.k

abbrev pub decreases-match_crossing-loop-k : goal.decreases-match_crossing-loop-k
decreases-match_crossing-loop-k l = length l.t + 1 - l.k

abbrev pub invariant-match_items-loop-k : goal.invariant-match_items-loop-k
invariant-match_items-loop-k l = Reached l.m true l.p l.t l.a l.k l.slides

abbrev pub decreases-match_items-loop-k : goal.decreases-match_items-loop-k
decreases-match_items-loop-k l = (length l.p - l.a) + (length l.t - l.k)

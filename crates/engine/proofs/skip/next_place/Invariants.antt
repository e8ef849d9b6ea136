-- `engine::skip::next_place` meets its contract: the test has answered no at every place passed.
use Rattle.std.proofs.Common.{◌≡◌, false, ◌≤◌, ◌<◌, ℕ, length, get_or}
use Rattle.std.specs.Fn.{FnReturnsAt}
use Rattle.engine.proofs.skip.next_place.Given as goal

abbrev pub invariant-loop-j : goal.invariant-loop-j
invariant-loop-j g l = record {
  ends : l.j-end ≡ length l.t;
  later : l.k ≤ l.j;
  within : l.j ≤ length l.t;
  passed : (i : ℕ) → i < l.j → l.k ≤ i → FnReturnsAt g.F.Fn l.stops (get_or l.t i 0) false;
}

-- `attributelines::tokens::next_place` meets its contract: the test has answered no at every place passed.
use Rattle.std.proofs.Common.{◌≡◌, false, ◌≤◌, ◌<◌, ℕ, length, get_or}
use Rattle.std.specs.Fn.{FnReturnsAt}
use Rattle.attributelines.proofs.tokens.next_place.Given as goal

abbrev pub invariant-loop-i : goal.invariant-loop-i
invariant-loop-i g l = record {
  ends : l.i-end ≡ length l.text;
  later : l.at ≤ l.i;
  within : l.i ≤ length l.text;
  passed : (j : ℕ) → j < l.i → l.at ≤ j → FnReturnsAt g.F.Fn l.test (get_or l.text j 0) false;
}

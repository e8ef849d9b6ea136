-- The room left falls, and what came stays within it.
use Rattle.std.proofs.Common.{◌≤◌, ◌-◌, length}
use Rattle.testtables.proofs.read_front.Given as goal

abbrev pub invariant-loop-read : goal.invariant-loop-read
invariant-loop-read l = l.read ≤ length l.front

abbrev pub decreases-loop-read : goal.decreases-loop-read
decreases-loop-read l = length l.front - l.read

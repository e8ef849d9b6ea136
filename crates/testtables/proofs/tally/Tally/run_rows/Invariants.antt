-- What was counted before still is, and the rest stands within what the last row begins.
use Rattle.std.proofs.Common.{◌≤◌, length}
use Rattle.testtables.specs.Results.{Grown}
use Rattle.testtables.proofs.tally.Tally.run_rows.Given as goal

abbrev pub invariant-loop-rest : goal.invariant-loop-rest
invariant-loop-rest g l = Grown l.initial.self l.self × (length l.rest ≤ length l.last)

abbrev pub decreases-loop-rest : goal.decreases-loop-rest
decreases-loop-rest g l = length l.rest

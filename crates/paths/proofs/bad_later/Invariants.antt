-- `paths::bad_later` meets its contract. The bytes not yet passed decide.
use Rattle.std.proofs.Common.{◌≡◌, ◌≤◌, length}
use Rattle.paths.specs.inner.Scans.{bad_later}
use Rattle.paths.proofs.bad_later.Given as goal

abbrev pub invariant-loop-slash : goal.invariant-loop-slash
invariant-loop-slash l = (length l.rest ≤ length l.path) × (bad_later l.path ≡ bad_later l.rest)

abbrev pub decreases-loop-slash : goal.decreases-loop-slash
decreases-loop-slash l = length l.rest

-- `questionrefusals::rules::long_in` meets its contract. The lines from here on decide.
use mathlib.Core.Logic.{◌↔◌}
use Rattle.std.proofs.Common.{length}
use Rattle.questionrefusals.specs.inner.Scans.{LongIn}
use Rattle.questionrefusals.proofs.rules.long_in.Given as goal

abbrev pub invariant-loop-rest : goal.invariant-loop-rest
invariant-loop-rest l = LongIn l.file ↔ LongIn l.rest

abbrev pub decreases-loop-rest : goal.decreases-loop-rest
decreases-loop-rest l = length l.rest

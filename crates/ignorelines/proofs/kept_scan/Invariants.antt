-- `ignorelines::kept_scan` meets its contract: what stays of the whole line is what is known to stay, or reaches into what is left.
use mathlib.Core.Path.{◌≡◌}
use mathlib.Core.Bool.{false}
use lib.ListN.{drop}
use Rattle.ignorelines.specs.IgnoreLines.{kept}
use Rattle.ignorelines.proofs.LineLaws.{reach}
use Rattle.ignorelines.proofs.kept_scan.Given as goal

abbrev pub invariant-loop-i : goal.invariant-loop-i
invariant-loop-i l = kept false l.line ≡ reach l.keep l.i (kept l.escaped (drop l.i l.line))

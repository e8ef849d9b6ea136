-- `attributelines::mentions_effect` meets its contract: the effect before the place reached is overridden by that of the tokens from there on.
use Prim.Native.Nat.{◌-◌}
use mathlib.Core.Path.{◌≡◌}
use lib.ListN.{length, drop}
use Rattle.attributelines.specs.AttributeLines.{tokens}
use Rattle.attributelines.specs.inner.Scan.{mentions_state}
use Rattle.attributelines.proofs.LineLaws.{pending}
use Rattle.attributelines.proofs.mentions_effect.Given as goal

abbrev pub invariant-loop-start : goal.invariant-loop-start
invariant-loop-start l = mentions_state l.attribute (tokens l.from (drop l.from l.text)) ≡ pending l.attribute l.effect (tokens l.at (drop l.at l.text))

abbrev pub decreases-loop-start : goal.decreases-loop-start
decreases-loop-start l = length l.text - l.at

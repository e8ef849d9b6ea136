-- `brokenplaces::sizes::members_size` meets its contract: the i bytes passed and the size of the members that are left are the whole size.
use Prim.Native.Nat.{◌-◌}
use lib.ListN.{length}
use Rattle.brokenplaces.proofs.MeasureLaws.{ReadTo}
use Rattle.brokenplaces.proofs.sizes.members_size.Given as goal

abbrev pub invariant-loop-i : goal.invariant-loop-i
invariant-loop-i l = ReadTo l.q l.i l.close

abbrev pub decreases-loop-i : goal.decreases-loop-i
decreases-loop-i l = length l.q - l.i

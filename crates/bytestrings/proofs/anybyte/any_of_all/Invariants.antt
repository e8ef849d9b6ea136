-- `bytestrings::anybyte::any_of_all` meets its contract: whether one of the bytes passed was found.
use Rattle.std.proofs.Common.{◌≡◌, ◌≤◌, length, take}
use Rattle.std.specs.List.{list_any}
use Rattle.bytestrings.proofs.anybyte.any_of_all.Given as goal

abbrev pub invariant-loop-b : goal.invariant-loop-b
invariant-loop-b g l = (l.b-index ≤ length l.bytes) × (l.found ≡ list_any g.T.ByteTest.holds (take l.b-index l.bytes))

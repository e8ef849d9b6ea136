-- What is decoded and what is left come to what the whole field does, and there was room for it.
use Rattle.std.proofs.Common.{◌≡◌, ◌≤◌, [], length}
use Rattle.arrayvec.specs.ArrayVec.{array_vec_len}
use Rattle.testtables.specs.Fields.{decoded_behind}
use Rattle.testtables.proofs.fields.decode.Given as goal

abbrev pub invariant-loop-rest : goal.invariant-loop-rest
invariant-loop-rest g l = (decoded_behind [] l.field ≡ decoded_behind l.bytes.items l.rest) × (array_vec_len l.bytes ≤ g.row.ROOM)

abbrev pub decreases-loop-rest : goal.decreases-loop-rest
decreases-loop-rest g l = length l.rest

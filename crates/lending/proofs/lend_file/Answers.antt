-- The file is lent: its bytes are copied behind those before it, and its numbers stored.
use mathlib.Core.Path.{refl}
use native.Mathlib.Omega.{arith}
use Prim.Native.Nat.{◌+◌, ◌-◌, ◌<◌, ◌≤◌}
use lib.ListN.{length}
use Rattle.std.proofs.lemmas.Slice.{put_mid-paste}
use Rattle.lending.specs.inner.Room.{Within}
use Rattle.lending.proofs.LendLaws.{lent_more}
use Rattle.lending.proofs.lend_file.Goals as goal

pub returns-clause-lends : goal.returns-clause-lends
unfolding Within
returns-clause-lends c =
    let a = c.args in
    let b = a.buffers.now in
    let rules_room : a.lent.bytes + length a.file.now ≤ length b.rules.now = omega (arith, c.requires.0, c.if-buffers-at.false) in
    let ends_room : a.lent.files < length b.ends.now = omega (arith, c.if-buffers-n.false) in
    let bases_room : a.lent.files < length b.bases.now = omega (arith, c.if-buffers-n-2.false) in
    let numbers_room : a.lent.files < length b.numbers.now = omega (arith, c.if-buffers-n-3.false) in
    let more = lent_more a.path.now a.number a.directory.now a.file.now a.lent b c.requires c.if-not-stands_above.ensures rules_room ends_room bases_room numbers_room in
    rw (put_mid-paste a.lent.bytes (a.lent.bytes + length a.file.now - a.lent.bytes) b.rules.now c.copy_from_slice.new.self
    a.file.now (length a.file.now) c.copy_from_slice.ensures.after (omega arith) refl) more

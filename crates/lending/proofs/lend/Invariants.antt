-- `lending::lend` meets its contract: what is lent so far, and the files and directories still to come, make up the lists.
use mathlib.Core.Path.{◌≡◌}
use Rattle.lending.specs.Lending.{parts, lists, SameBuffers}
use Rattle.lending.specs.inner.Room.{Within, taken}
use Rattle.lending.proofs.LendLaws.{pending}
use Rattle.lending.proofs.lend.Given as goal

abbrev pub invariant-loop-i : goal.invariant-loop-i
invariant-loop-i l = record {
  pending : lists l.path (parts l.directories.bytes.now l.directories.ends.now) (parts l.files.bytes.now l.files.ends.now)
      ≡ pending l.path l.directories.bytes.now l.files.bytes.now l.directory_start l.file_start l.i-iterator.count l.i-iterator.iter.b.rest.now l.i-iterator.iter.a.rest.now
      (taken l.lent l.buffers);
  within : Within l.lent l.buffers;
  same_buffers : SameBuffers l.initial.buffers l.buffers;
}

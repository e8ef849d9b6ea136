-- How far the buffers are filled.
use Rattle.std.specs.Prelude.{◌≤◌, length, take}
use Rattle.lending.specs.declared.Lent.{Lent}
use Rattle.lending.specs.declared.Buffers.{Buffers}
use Rattle.lending.specs.Lending.{Lists}

-- the buffers are at least as long as they are filled
unfoldable pub Within : Lent → Buffers → Type 0
Within lent b =
    (lent.bytes ≤ length b.rules.now) × ((lent.files ≤ length b.ends.now) × ((lent.files ≤ length b.bases.now) × (lent.files ≤ length b.numbers.now)))

-- the lists that the buffers are filled with
unfoldable pub taken : Lent → Buffers → Lists
taken lent b =
    record { rules = take lent.bytes b.rules.now; ends = take lent.files b.ends.now; bases = take lent.files b.bases.now; numbers = take lent.files b.numbers.now }

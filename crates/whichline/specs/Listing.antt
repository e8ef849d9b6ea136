-- A listing that is read piece by piece: what the bytes that are read and not yet answered come to.
use Rattle.std.specs.Prelude.{ℕ, ◌+◌, ◌-◌, ◌≡◌, Bool, true, false, cond, ◌&&◌, ◌||◌, List, eqb, ltb, leb, length, take, drop}
use Rattle.bytestrings.specs.Text.{newline}
use Rattle.bytestrings.specs.Bytes.{length_until}
use Rattle.whichline.specs.declared.listing.Unread.{Unread}
use Rattle.whichline.specs.declared.listing.Found.{Found}
use Rattle.whichline.specs.declared.listing.Line.{Line}
use Rattle.whichline.specs.declared.listing.Entry.{Entry}
use Rattle.whichline.specs.declared.listing.Found.TheVariants.{Next, Over, More, Again}

-- nothing is read yet
abbrev pub nothing_read : Unread
nothing_read = record { start = 0; have = 0; passing = false; over = false }

-- the bytes from one place up to another
abbrev pub slice : ℕ → ℕ → List ℕ → List ℕ
slice from to bytes = drop from (take to bytes)

-- where a byte stands first, or how many bytes there are
abbrev pub index_of : ℕ → List ℕ → ℕ
index_of b bytes = length_until (λ x. eqb x b) bytes

-- where the first unread line ends: at its newline, or where what is read ends
unfoldable pub line_end : List ℕ → ℕ → ℕ → ℕ
line_end buffer start have = cond (leb start have && leb have (length buffer)) (start + index_of newline (slice start have buffer)) have

-- a line; of one with over 8,192 bytes, its front
unfoldable pub found_line : ℕ → ℕ → Unread → Found
found_line start end rest =
    cond (ltb end start) Over (cond (leb (end - start) 8192) (Next (record { start = start; end = end; cut = false; after = rest }))
    (Next (record { start = start; end = start + 8192; cut = true; after = rest })))

-- what is unread behind a newline
abbrev pub behind_line : Unread → ℕ → Unread
behind_line u end = record { start = end + 1; have = u.have; passing = false; over = u.over }

-- a newline stands at `end`: before it is a line, or the rest of one that was too long
unfoldable pub ended : Unread → ℕ → Found
ended u end = cond u.passing (Again (behind_line u end)) (found_line u.start end (behind_line u end))

-- all that is read is passed over, and what is left of its line will be
abbrev pub passed : Unread → Unread
passed u = record { start = u.have; have = u.have; passing = true; over = u.over }

-- nothing more can be found without more bytes: at the end of the input it is over
abbrev pub wanting : Unread → Unread → Found
wanting u rest = cond u.over Over (More rest)

-- there is no newline: at the end of the input the unread bytes are the last line, if there are any, and what is too long for a line is found before
unfoldable pub unended : Unread → Found
unended u =
    cond (leb u.have u.start) (wanting u u) (cond u.passing (wanting u (passed u)) (cond (ltb 8192 (u.have - u.start) || u.over) (found_line u.start u.have (passed u)) (More u)))

-- what the unread bytes of a buffer come to
unfoldable pub looked : List ℕ → Unread → Found
looked buffer u =
    let end = line_end buffer u.start u.have in
    cond (ltb end u.have) (ended u end) (unended u)

-- a line lies in a buffer
abbrev pub holds_line : List ℕ → Line → Bool
holds_line buffer line = leb line.start line.end && leb line.end (length buffer)

-- the entry that a line of a buffer is
abbrev pub EntryOf : List ℕ → Line → Entry → Type 0
EntryOf buffer line entry = (entry.line.now ≡ slice line.start line.end buffer) × (entry.cut ≡ line.cut)

-- Document 01, "lending for each path only the files above it": the lists that are lent for a path, out of rule files that each stand in a directory.
-- It serves the command-line program and is no call of the base: it writes its lists into four buffers. What these hold behind the lists, and where
-- there is no room for them, is left free.
use Rattle.std.specs.Prelude.{ℕ, ◌+◌, ◌≤◌, ◌<◌, ◌≡◌, Bool, true, false, cond, ◌&&◌, ◌⊎◌, List, [], ◌∷◌, ◌++◌, eqb, length, take, Result, Ok, Err}
use Rattle.rulefiles.specs.RuleFiles.{bytes_between}
use Rattle.lending.specs.declared.Lent.{Lent}
use Rattle.lending.specs.declared.Full.{Full}
use Rattle.lending.specs.declared.Buffers.{Buffers}

-- byte strings that lie end to end, from a start on, by their ends
abbrev pub parts_from : ℕ → List ℕ → List ℕ → List (List ℕ)
parts_from start bytes [] = []
parts_from start bytes (end ∷ ends) = bytes_between start end bytes ∷ parts_from end bytes ends

-- all of them
unfoldable pub parts : List ℕ → List ℕ → List (List ℕ)
parts bytes ends = parts_from 0 bytes ends

-- "the files above it": a file's directory, with its last slash, is the front of the path, and more follows, since "A file applies to a path
-- or directory of n bytes only if its base is less than n." At the top the directory is empty. That it ends in a slash is not tested here: without one
-- the base that is lent is misplaced (refusal 2). (proofs/Meaning.antt has it as a relation, `Above`.)
unfoldable pub above : List ℕ → List ℕ → Bool
above [] [] = false
above [] (y ∷ path) = true
above (x ∷ directory) [] = false
above (x ∷ directory) (y ∷ path) = eqb x y && above directory path

-- "All rule files lie end to end in one lent byte buffer .. Two lent lists of numbers, one entry a file, give its end in the buffer and its base".
-- And which of the given files each is, counted from 0
pub record Lists : Type 0 where
  pub rules : List ℕ
  pub ends : List ℕ
  pub bases : List ℕ
  pub numbers : List ℕ

-- the lists with one file more, the highest: "its base: how many leading bytes of the path are its directory with the slash, 0 at the top"
unfoldable pub with_file : ℕ → List ℕ → List ℕ → Lists → Lists
with_file number directory file l =
    record { rules = l.rules ++ file; ends = l.ends ++ length (l.rules ++ file) ∷ []; bases = l.bases ++ length directory ∷ []; numbers = l.numbers ++ number ∷ [] }

-- "lending for each path only the files above it"
unfoldable pub lend_one : List ℕ → ℕ → List ℕ → List ℕ → Lists → Lists
lend_one path number directory file l = cond (above directory path) (with_file number directory file l) l

-- one file after the other from a number on, each with its directory; a file for which none is given is not lent
abbrev pub lend_all : List ℕ → ℕ → List (List ℕ) → List (List ℕ) → Lists → Lists
lend_all path number ds [] l = l
lend_all path number [] (f ∷ fs) l = l
lend_all path number (d ∷ ds) (f ∷ fs) l = lend_all path (number + 1) ds fs (lend_one path number d f l)

-- the lists that are lent for a path
unfoldable pub lists : List ℕ → List (List ℕ) → List (List ℕ) → Lists
lists path directories files = lend_all path 0 directories files (record { rules = []; ends = []; bases = []; numbers = [] })

-- the first k of a buffer are a list
abbrev pub Front : ℕ → List ℕ → List ℕ → Type 0
Front k buffer list = (k ≤ length buffer) × (take k buffer ≡ list)

-- the lists stand at the front of four buffers
unfoldable pub Holds : Lists → Lent → List ℕ → List ℕ → List ℕ → List ℕ → Type 0
Holds l lent rules ends bases numbers =
    Front lent.bytes rules l.rules × (Front lent.files ends l.ends × (Front lent.files bases l.bases × Front lent.files numbers l.numbers))

-- one of the buffers has no room for its list
unfoldable pub NoRoom : Lists → List ℕ → List ℕ → List ℕ → List ℕ → Type 0
NoRoom l rules ends bases numbers =
    (length rules < length l.rules) ⊎ ((length ends < length l.ends) ⊎ ((length bases < length l.bases) ⊎ (length numbers < length l.numbers)))

-- what lending these lists answers: that they stand at the front of the buffers, or that there is no room for them
abbrev pub Lends : Lists → Result Lent Full → Buffers → Type 0
Lends l (Ok lent) b = Holds l lent b.rules.now b.ends.now b.bases.now b.numbers.now
Lends l (Err full) b = NoRoom l b.rules.now b.ends.now b.bases.now b.numbers.now

-- the buffers are still the caller's four, and as long
pub record SameBuffers (old new : Buffers) : Type 0 where
  pub rules : (new.rules.ghost_name ≡ old.rules.ghost_name) × (length new.rules.now ≡ length old.rules.now)
  pub ends : (new.ends.ghost_name ≡ old.ends.ghost_name) × (length new.ends.now ≡ length old.ends.now)
  pub bases : (new.bases.ghost_name ≡ old.bases.ghost_name) × (length new.bases.now ≡ length old.bases.now)
  pub numbers : (new.numbers.ghost_name ≡ old.numbers.ghost_name) × (length new.numbers.now ≡ length old.numbers.now)

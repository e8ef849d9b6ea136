-- Document 01, "How rule files are lent" and, of "Ignore lines", the splitting into lines: files, lines, and where each line stands.
use Rattle.std.specs.Prelude.{ℕ, suc, ◌+◌, ◌-◌, Bool, false, cond, ◌&&◌, List, [], ◌∷◌, ◌++◌, eqb, length, take, drop}
use Rattle.bytestrings.specs.Text.{newline}
use Rattle.bytestrings.specs.Bytes.{length_until}

-- a file as it is lent: its number, "Files count from 0"; its *base*, 01's term for "how many leading bytes of the path are its directory with
-- the slash, 0 at the top"; where it starts in the rule bytes; its bytes
pub record File : Type 0 where
  pub number : ℕ
  pub base : ℕ
  pub start : ℕ
  pub bytes : List ℕ

-- a line: its file's number; its own number, "lines from 1"; its file's base; where it starts in the rule bytes; its bytes, without the
-- newline and in line 1 without the BOM; a CR stays
pub record Line : Type 0 where
  pub file : ℕ
  pub number : ℕ
  pub base : ℕ
  pub start : ℕ
  pub bytes : List ℕ

-- the bytes from a start to an end
unfoldable pub bytes_between : ℕ → ℕ → List ℕ → List ℕ
bytes_between start end bytes = take (end - start) (drop start bytes)

-- "All rule files lie end to end in one lent byte buffer, lowest precedence first. Two lent lists of numbers, one entry a file, give its end
-- in the buffer and its base". The files from one number and start on
abbrev pub files_from : ℕ → ℕ → List ℕ → List ℕ → List ℕ → List File
files_from number start rules [] bases = []
files_from number start rules (end ∷ ends) [] = []
files_from number start rules (end ∷ ends) (base ∷ bases) =
    record { number = number; base = base; start = start; bytes = bytes_between start end rules } ∷ files_from (suc number) end rules ends bases

-- all files
unfoldable pub files : List ℕ → List ℕ → List ℕ → List File
files rules ends bases = files_from 0 0 rules ends bases

-- one byte more at the start of the first line
abbrev pub onto : ℕ → List (List ℕ) → List (List ℕ)
onto b [] = (b ∷ []) ∷ []
onto b (l ∷ ls) = (b ∷ l) ∷ ls

-- "split at byte 10 .. Bytes after the last newline are a line only if there are any."
unfoldable pub split : List ℕ → List (List ℕ)
split [] = []
split (b ∷ s) = cond (eqb b newline) ([] ∷ split s) (onto b (split s))

-- how many bytes stand before the first newline; all where there is none
abbrev pub line_length : List ℕ → ℕ
line_length s = length_until (λ b. eqb b newline) s

-- "a UTF-8 BOM (EF BB BF) at the file's start"
abbrev pub has_bom : List ℕ → Bool
has_bom (a ∷ b ∷ c ∷ s) = eqb a 0xEF && (eqb b 0xBB && eqb c 0xBF)
has_bom (a ∷ b ∷ []) = false
has_bom (a ∷ []) = false
has_bom [] = false

-- how many bytes the BOM takes
unfoldable pub bom_length : List ℕ → ℕ
bom_length bytes = cond (has_bom bytes) 3 0

-- the lines of a file from one of its lines on: the file's number and base, the line's number and start
abbrev pub lines_from : ℕ → ℕ → ℕ → ℕ → List (List ℕ) → List Line
lines_from file base number start [] = []
lines_from file base number start (l ∷ ls) =
    record { file = file; number = number; base = base; start = start; bytes = l } ∷ lines_from file base (suc number) (start + length l + 1) ls

-- "Drop a UTF-8 BOM (EF BB BF) at the file's start, split at byte 10"
unfoldable pub lines_of : File → List Line
lines_of f = lines_from f.number f.base 1 (f.start + bom_length f.bytes) (split (drop (bom_length f.bytes) f.bytes))

-- of one file after the other
abbrev pub lines_of_all : List File → List Line
lines_of_all [] = []
lines_of_all (f ∷ fs) = lines_of f ++ lines_of_all fs

-- 01's *ordered lines*: "all lines of file 0, then of file 1 and so on"
unfoldable pub ordered_lines : List ℕ → List ℕ → List ℕ → List Line
ordered_lines rules ends bases = lines_of_all (files rules ends bases)

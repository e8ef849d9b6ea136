-- Document 01: "To blank a line is to overwrite all its bytes but the newline with spaces."
use Rattle.std.specs.Prelude.{ℕ, suc, Bool, cond, not, ◌&&◌, List, [], ◌∷◌, ◌++◌, eqb, take, drop}
use Rattle.bytestrings.specs.Text.{char, newline}
use Rattle.rulefiles.specs.RuleFiles.{File, bom_length, files}
use Rattle.bytestrings.specs.Bytes.{is_empty}

-- "whichever lines are overwritten with spaces, any number at once": which lines, by file and line number; and for each file whether its BOM is
-- overwritten with line 1. 01 counts a BOM with the line (refusal 5) and drops it before the lines are split, so that "all its bytes" of line 1
-- may be read with it or without; the choice covers both
pub record Choice : Type 0 where
  pub line : ℕ → ℕ → Bool
  pub bom : ℕ → Bool

-- the bytes of a file from its line `number` on: of a chosen line "all its bytes but the newline" are overwritten
unfoldable pub overwritten : (ℕ → Bool) → ℕ → List ℕ → List ℕ
overwritten chosen number [] = []
overwritten chosen number (b ∷ s) = cond (eqb b newline) (b ∷ overwritten chosen (suc number) s) (cond (chosen number) (char " ") b ∷ overwritten chosen number s)

-- a file's bytes. `bom`: the BOM is among the bytes of line 1; a file with nothing after its BOM has no line 1
unfoldable pub blanked_file : (ℕ → Bool) → Bool → List ℕ → List ℕ
blanked_file chosen bom bytes =
    cond (bom && not (is_empty (drop (bom_length bytes) bytes))) (overwritten chosen 1 bytes)
    (take (bom_length bytes) bytes ++ overwritten chosen 1 (drop (bom_length bytes) bytes))

-- of one file after the other
abbrev pub blanked_files : Choice → List File → List ℕ
blanked_files chosen [] = []
blanked_files chosen (f ∷ fs) = blanked_file (chosen.line f.number) (chosen.bom f.number) f.bytes ++ blanked_files chosen fs

-- the rule bytes with the chosen lines overwritten
unfoldable pub blanked : Choice → List ℕ → List ℕ → List ℕ → List ℕ
blanked chosen rules ends bases = blanked_files chosen (files rules ends bases)

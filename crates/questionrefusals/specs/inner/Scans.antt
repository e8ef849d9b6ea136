-- What the scan of a file finds.
use Rattle.std.specs.Prelude.{ℕ, ◌-◌, ◌<◌, ◌≡◌, Bool, not, ◌&&◌, ◌||◌, eqb, leb, Option, None, Some, length, get_or}
use mathlib.Core.List.{List, Memᴰ}
use Rattle.bytestrings.specs.Text.{char, newline}
use Rattle.rulefiles.specs.RuleFiles.{split}
use Rattle.refusals.specs.Limits.{line_limit}

-- one of a file's lines is over the limit
unfoldable pub LongIn : List ℕ → Type 0
LongIn bytes = (l : List ℕ) × Memᴰ l (split bytes) × (line_limit < length l)

-- `r` is the place of the last newline, or there is none
abbrev pub LastNewline : List ℕ → Option ℕ → Type 0
LastNewline bytes None = (k : ℕ) → k < length bytes → get_or bytes k 0 ≡ newline → ⊥
LastNewline bytes (Some n) = (n < length bytes) × (get_or bytes n 0 ≡ newline)

-- whether a base is misplaced
unfoldable pub base_bad : List ℕ → ℕ → Bool
base_bad path base = not (eqb base 0) && (leb (length path) base || not (eqb (get_or path (base - 1) 0) (char "/")))

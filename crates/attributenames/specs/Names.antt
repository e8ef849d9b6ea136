-- Document 01, "When a question is turned away": the condition of refusal 6, and "Attribute lines": a bad name, by "refusal 6's rule without the 255".
use Rattle.std.specs.Prelude.{ℕ, ◌<◌, ◌≡◌, ◌⊎◌, Bool, true, false, not, ◌||◌, ◌&&◌, List, [], ◌∷◌, eqb, length}
use Rattle.bytestrings.specs.Bytes.{in_range}
use Rattle.bytestrings.specs.Text.{char}
use Rattle.refusals.specs.Limits.{name_limit}

-- "letters, digits, `-`, `.`, `_`"
unfoldable pub name_byte : ℕ → Bool
name_byte b =
    (in_range (char "a") (char "z") b || (in_range (char "A") (char "Z") b || (in_range (char "0") (char "9") b
    || (eqb b (char "-") || (eqb b (char ".") || eqb b (char "_"))))))

-- every byte is one of these
abbrev pub name_bytes : List ℕ → Bool
name_bytes [] = true
name_bytes (b ∷ s) = name_byte b && name_bytes s

-- a name that does not break refusal 6's rule "without the 255": "is empty, .. begins with `-`, or has a byte outside letters, digits, `-`, `.`, `_`"
abbrev pub good_name : List ℕ → Bool
good_name [] = false
good_name (b ∷ s) = not (eqb b (char "-")) && name_bytes (b ∷ s)

-- 6: "attribute asked for is empty, over 255 bytes, begins with `-`, or has a byte outside letters, digits, `-`, `.`, `_`"
unfoldable pub BadName : List ℕ → Type 0
BadName name = (name_limit < length name) ⊎ (good_name name ≡ false)

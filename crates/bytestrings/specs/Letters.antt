-- Document 01, "Patterns": the lower and the upper ASCII form of a byte, and folding case.
use Rattle.std.specs.Prelude.{ℕ, ◌+◌, ◌-◌, Bool, true, false, cond, ◌||◌}
use Rattle.bytestrings.specs.Text.{char}
use Rattle.bytestrings.specs.Bytes.{in_range}

-- "its lower .. ASCII form": A to Z become a to z
abbrev pub lower : ℕ → ℕ
lower x = cond (in_range (char "A") (char "Z") x) (x + (char "a" - char "A")) x

-- "its .. upper ASCII form": a to z become A to Z
abbrev pub upper : ℕ → ℕ
upper x = cond (in_range (char "a") (char "z") x) (x - (char "a" - char "A")) x

-- "accepts a byte if it accepts its lower or its upper ASCII form"
unfoldable pub folded : Bool → (ℕ → Bool) → ℕ → Bool
folded true a x = a (lower x) || a (upper x)
folded false a x = a x

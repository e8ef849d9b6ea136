-- Document 01, "When a question is turned away": the conditions of refusals 7 to 9 in the table's words, and "the lowest is answered".
-- 1 stands in paths (Paths), 6 in attributenames (Names), 2, 3, 5 and which of them each question has in questionrefusals (Conditions).
use Rattle.std.specs.Prelude.{ℕ, ◌<◌, ◌≡◌, ◌⊎◌, length}
use mathlib.Core.List.{List, Memᴰ}
use Rattle.refusals.specs.Limits.{pattern_limit, text_limit, flags_limit}

-- 7: "pattern over 2,048 bytes or text over 4,096"
abbrev pub TooLong : List ℕ → List ℕ → Type 0
TooLong pattern text = (pattern_limit < length pattern) ⊎ (text_limit < length text)

-- "byte 0 in" some bytes
abbrev pub HoldsZero : List ℕ → Type 0
HoldsZero bytes = Memᴰ 0 bytes

-- 9: "flags number above 3"
abbrev pub FlagsHigh : ℕ → Type 0
FlagsHigh flags = flags_limit < flags

-- "Where several hold, the lowest is answered": n's condition holds, and none below it does
unfoldable pub Lowest : (ℕ → Type 0) → ℕ → Type 0
Lowest Condition n = Condition n × ((k : ℕ) → k < n → Condition k → ⊥)

-- 01's *accepted*: "A question is accepted if no refusal in the table holds."
unfoldable pub Accepted : (ℕ → Type 0) → Type 0
Accepted Condition = (n : ℕ) → Condition n → ⊥

-- what the checks of a call find: the lowest refusal, or 0 where the question is accepted
pub record LowestOrNone (Condition : ℕ → Type 0) (n : ℕ) : Type 0 where
  pub lowest : (n ≡ 0 → ⊥) → Lowest Condition n
  pub accepted : n ≡ 0 → Accepted Condition

-- The refusals of the matcher: 7; 8, "byte 0 in pattern or text"; and 9.
unfoldable pub MatcherRefuses : List ℕ → List ℕ → ℕ → ℕ → Type 0
MatcherRefuses pattern text flags n =
    ((n ≡ 7) × TooLong pattern text)
    ⊎ (((n ≡ 8) × (HoldsZero pattern ⊎ HoldsZero text))
    ⊎ ((n ≡ 9) × FlagsHigh flags))

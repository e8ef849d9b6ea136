-- How a line's tokens are found one after another.
use Rattle.std.specs.Prelude.{ℕ, ◌≡◌, ◌+◌, ◌<◌, ◌≤◌, not, cond, List, length, drop, Option, None}
use Rattle.bytestrings.specs.Bytes.{length_until}
use Rattle.attributelines.specs.AttributeLines.{is_blank, Token, good_names, last_mention}
use Rattle.attributelines.specs.declared.State.{State}

-- how many blanks stand first
abbrev pub blank_length : List ℕ → ℕ
blank_length s = length_until (λ b. not (is_blank b)) s

-- how many bytes that are no blanks stand first
abbrev pub token_length : List ℕ → ℕ
token_length s = length_until is_blank s

-- the next token of the bytes from a place on starts and ends at these places
pub record IsNextToken (s : List ℕ) (at start end : ℕ) : Type 0 where
  pub later : at ≤ start
  pub starts : start ≡ at + blank_length (drop at s)
  pub long : start < end
  pub ends : end ≡ start + token_length (drop start s)
  pub within : end ≤ length s

-- the state that the mentions of a line give, whose pattern matches
unfoldable pub mentions_state : List ℕ → List Token → Option State
mentions_state attribute ws = cond (good_names ws) (last_mention attribute ws) None

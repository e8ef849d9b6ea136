-- Document 01, "How rule files are lent": "Flags are one number". What the two flags mean stands with each call: wildmatch Answers.mode_of, questions
-- Answers.path_entry and folds.
use Rattle.std.specs.Prelude.{ℕ, ◌+◌, Bool, true, false, cond, ◌||◌, eqb}

-- the sum of those of the two flags, 1 and 2, that are given
abbrev pub sum_of : Bool → Bool → ℕ
sum_of one two = cond one 1 0 + cond two 2 0

-- the flag 1 is in the sum, without the other or with it
unfoldable pub flag_one : ℕ → Bool
flag_one flags = eqb flags (sum_of true false) || eqb flags (sum_of true true)

-- the flag 2 is in the sum
unfoldable pub flag_two : ℕ → Bool
flag_two flags = eqb flags (sum_of false true) || eqb flags (sum_of true true)

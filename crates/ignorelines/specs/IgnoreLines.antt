-- Document 01, "Ignore lines": the effect of one line on one entry.
use Rattle.std.specs.Prelude.{ℕ, zero, suc, Bool, true, false, cond, ◌||◌, List, [], ◌∷◌, eqb, take, drop, Option, None, Some}
use Rattle.bytestrings.specs.Text.{char, carriage_return}
use Rattle.rulefiles.specs.RuleFiles.{Line}
use Rattle.entries.specs.Entries.{Entry, applies, Subject, subject_of, pattern_matches}
use Rattle.bytestrings.specs.Bytes.{first_is, last_is, without_last, is_empty}
-- an entry's verdict where a line decides it: "ignored or, negated, re-included". Where none does, it is undecided: "else nothing said"
use Rattle.ignorelines.specs.declared.Verdict.{Verdict}
use Rattle.ignorelines.specs.declared.Verdict.TheVariants.{Ignored, Reincluded}

-- "drop one CR at a line's end, the last line's too"
unfoldable pub without_cr : List ℕ → List ℕ
without_cr l = cond (last_is carriage_return l) (without_last l) l

-- "Skip a line that is empty or begins with `#`."
unfoldable pub skipped : List ℕ → Bool
skipped l = is_empty l || first_is (char "#") l

-- a space stays if anything after it stays
abbrev pub space_before : ℕ → ℕ
space_before zero = zero
space_before (suc n) = suc (suc n)

-- "Strip trailing spaces that aren't escaped; tabs stay": how many bytes stay. `escaped`: the byte before is a `\` that escapes the first one
unfoldable pub kept : Bool → List ℕ → ℕ
kept escaped [] = zero
kept true (b ∷ s) = suc (kept false s)
kept false (b ∷ s) = cond (eqb b (char "\\")) (suc (kept true s)) (cond (eqb b (char " ")) (space_before (kept false s)) (suc (kept false s)))

-- the bytes that stay
unfoldable pub stripped : List ℕ → List ℕ
stripped l = take (kept false l) l

-- "A first `!` negates and goes."
unfoldable pub negated : List ℕ → Bool
negated l = first_is (char "!") l

-- the line without it
unfoldable pub without_not : List ℕ → List ℕ
without_not l = cond (first_is (char "!") l) (drop 1 l) l

-- the effect of a line that is not skipped and has been stripped: its pattern matches the entry, or there is none
unfoldable pub rule_effect : Subject → List ℕ → Option Verdict
rule_effect subject l = cond (pattern_matches subject (without_not l)) (Some (cond (negated l) Reincluded Ignored)) None

-- the effect of a line's bytes
unfoldable pub line_effect : Subject → List ℕ → Option Verdict
line_effect subject bytes = cond (skipped (without_cr bytes)) None (rule_effect subject (stripped (without_cr bytes)))

-- the effect of a line on an entry, if its file applies
unfoldable pub ignore_effect : Bool → Entry → Line → Option Verdict
ignore_effect fold e l = cond (applies l.base e) (line_effect (subject_of fold l.base e) l.bytes) None

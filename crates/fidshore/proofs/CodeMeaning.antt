-- From a C call's code back to its condition. Demand 1: "Each refusal in the table is given exactly when its condition holds": no other
-- answer has a refusal's code; and of the matcher each other code too.
use Prim.Native.Nat.{ℕ, ◌+◌}
use mathlib.Core.Path.{◌≡◌, refl, sym, ap, subst, ◌∙◌}
use mathlib.Core.Logic.{◌↔◌}
use mathlib.Core.List.{List, [], ◌∷◌}
use Rattle.std.specs.Prelude.{None, Some, Result, Ok, Err}
use native.Mathlib.Omega.{arith}
use lib.ListN.{length}
use Rattle.refusals.specs.Refusals.{Lowest, Accepted, MatcherRefuses}
use Rattle.questionrefusals.specs.Conditions.{IgnoreRefuses, AttributeRefuses}
use Rattle.brokenplaces.specs.BrokenPlaces.{broken_at}
use Rattle.patterns.specs.Sharing.{Matches}
use Rattle.wildmatch.specs.Answers.{mode_of, Due, Given, Answered, code_of}
use Rattle.wildmatch.specs.declared.Answer.{Answer}
use Rattle.wildmatch.specs.declared.Answer.TheVariants.{Unmatched, Matched, Broken}
use Rattle.refusals.specs.declared.refusal.Refusal.{Refusal}
use Rattle.refusals.specs.Numbers.{number_of}
use Rattle.refusals.proofs.NumberLaws.{matcher_numbered, lowest_holds}
use Rattle.questions.specs.Answers.{ignore_answer, attribute_answer}
use Rattle.answers.proofs.CompleteLaws.{number-refused}
use Rattle.questions.proofs.SmallLaws.{ignore_small, attribute_small}
use Rattle.fidshore.specs.Codes.{MatchCode, IgnoreCode, AttributeCode}

match_from : (a : Result Answer Refusal) (n : ℕ) → code_of a ≡ 16 + n → (r : Refusal) × (a ≡ Err r) × (number_of r ≡ n)
unfolding code_of
match_from (Ok Unmatched) n e = absurd (omega arith)
match_from (Ok Matched) n e = absurd (omega arith)
match_from (Ok (Broken place)) n e = absurd (omega arith)
match_from (Err r) n e = (r, refl, omega arith)

pub match_refused : (pattern text : List ℕ) (flags code n : ℕ) → MatchCode pattern text flags code → (code ≡ 16 + n) ↔ Lowest (MatcherRefuses pattern text flags) n
unfolding code_of Answered Given
match_refused pattern text flags code n c =
    let C = MatcherRefuses pattern text flags in (
      λ e. let r = match_from c.answer n (sym c.coded ∙ e) in subst (Lowest C) r.2 ((c.answered (Err r.0)).0 r.1),
      λ l.
          let r = matcher_numbered pattern text flags n (lowest_holds C n l) in
          c.coded ∙ ap code_of ((c.answered (Err r.0)).1 (subst (Lowest C) (sym r.1) l)) ∙ ap (λ (k : ℕ). 16 + k) r.1,
    )

-- the code is the number of such an answer
coded : (C : ℕ → Type 0) (code number n : ℕ) → code ≡ number → (number ≡ 16 + n) ↔ Lowest C n → (code ≡ 16 + n) ↔ Lowest C n
coded C code number n c r = (λ e. r.0 (sym c ∙ e), λ l. c ∙ r.1 l)

pub ignore_refused : (path rules : List ℕ) (flags code n : ℕ) → IgnoreCode path rules flags code → (code ≡ 16 + n) ↔ Lowest (IgnoreRefuses path rules (length rules ∷ []) (0 ∷ []) flags) n
ignore_refused path rules flags code n c =
    let C = IgnoreRefuses path rules (length rules ∷ []) (0 ∷ []) flags in
    let answer = ignore_answer path rules (length rules ∷ []) (0 ∷ []) flags in
    coded C code c.answer.number n c.coded (number-refused C answer c.answer n c.answered.refused c.answered.accepted (ignore_small path rules (length rules ∷ []) (0 ∷ []) flags))

pub attribute_refused : (path rules name : List ℕ) (flags code n : ℕ) → AttributeCode path rules name flags code
    → (code ≡ 16 + n) ↔ Lowest (AttributeRefuses path rules (length rules ∷ []) (0 ∷ []) name flags) n
attribute_refused path rules name flags code n c =
    let C = AttributeRefuses path rules (length rules ∷ []) (0 ∷ []) name flags in
    let answer = attribute_answer path rules (length rules ∷ []) (0 ∷ []) name flags in
    coded C code c.answer.number n c.coded (number-refused C answer c.answer
    n c.answered.refused c.answered.accepted (attribute_small path rules (length rules ∷ []) (0 ∷ []) name flags))

-- When the matcher has each of its other codes: 01, "C results: matcher 0 or 1"; 02, R-14, "The matcher's C code 2 means broken".
module _ (pattern text : List ℕ) (flags code : ℕ) (c : MatchCode pattern text flags code) where
  -- "The matcher says yes exactly when the text can be shared out among the pattern's items": code 1
  pub match_yes : (code ≡ 1) ↔ (Accepted (MatcherRefuses pattern text flags) × Matches (mode_of flags) pattern text)
  unfolding code_of Answered Given Due
  match_yes = (λ e. (c.answered (Ok Matched)).0 (only c.answer (sym c.coded ∙ e)), λ m. c.coded ∙ ap code_of ((c.answered (Ok Matched)).1 m))
    where
      only : (a : Result Answer Refusal) → code_of a ≡ 1 → a ≡ Ok Matched
      only (Ok Unmatched) e = absurd (omega arith)
      only (Ok Matched) e = refl
      only (Ok (Broken place)) e = absurd (omega arith)
      only (Err r) e = absurd (omega arith)

  -- code 2: it is broken, wherever that is
  pub match_broken : (code ≡ 2) ↔ (Accepted (MatcherRefuses pattern text flags) × ((place : ℕ) × (broken_at pattern ≡ Some place)))
  unfolding code_of Answered Given Due
  match_broken = (
    λ e. let o = only c.answer (sym c.coded ∙ e) in let g = (c.answered (Ok (Broken o.0))).0 o.1 in (g.0, (o.0, g.1)),
    λ m. c.coded ∙ ap code_of ((c.answered (Ok (Broken m.1.0))).1 (m.0, m.1.1)),
  )
    where
      only : (a : Result Answer Refusal) → code_of a ≡ 2 → (place : ℕ) × (a ≡ Ok (Broken place))
      only (Ok Unmatched) e = absurd (omega arith)
      only (Ok Matched) e = absurd (omega arith)
      only (Ok (Broken place)) e = (place, refl)
      only (Err r) e = absurd (omega arith)

  -- code 0: neither
  pub match_no : (code ≡ 0) ↔ (Accepted (MatcherRefuses pattern text flags) × ((broken_at pattern ≡ None) × (Matches (mode_of flags) pattern text → ⊥)))
  unfolding code_of Answered Given Due
  match_no = (λ e. (c.answered (Ok Unmatched)).0 (only c.answer (sym c.coded ∙ e)), λ m. c.coded ∙ ap code_of ((c.answered (Ok Unmatched)).1 m))
    where
      only : (a : Result Answer Refusal) → code_of a ≡ 0 → a ≡ Ok Unmatched
      only (Ok Unmatched) e = refl
      only (Ok Matched) e = absurd (omega arith)
      only (Ok (Broken place)) e = absurd (omega arith)
      only (Err r) e = absurd (omega arith)

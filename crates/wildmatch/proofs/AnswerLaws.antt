-- Each answer of the matcher is as specs/Answers.antt has it, and a call has one answer.
use mathlib.Core.Path.{◌≡◌, refl, sym, ap, subst, ◌∙◌}
use mathlib.Core.Bool.{Bool, true, false}
use mathlib.Core.List.{List}
use Prim.Native.Nat.{ℕ, ◌+◌}
use native.Mathlib.Omega.{arith}
use Rattle.refusals.specs.Refusals.{Lowest, Accepted, MatcherRefuses}
use Rattle.bytestrings.proofs.BoolLaws.{not_if_false}
use Rattle.refusals.proofs.LowestLaws.{lowest_one, lowest_refuses}
use Rattle.std.specs.Prelude.{None, Some, Result, Ok, Err}
use Rattle.brokenplaces.specs.BrokenPlaces.{broken_at}
use Rattle.patterns.specs.Sharing.{Matches}
use Rattle.std.specs.Prelude.{IfOk, IfErr}
use Rattle.wildmatch.specs.Answers.{mode_of, Due, Given, Answered, code_of, values_of}
use Rattle.refusals.specs.declared.refusal.Refusal.{Refusal}
use Rattle.refusals.specs.Numbers.{number_of}
use Rattle.refusals.proofs.NumberLaws.{number_one}
use Rattle.patterns.specs.MatchTest.{MatchDecided}
use Rattle.brokenplaces.proofs.BrokenLaws.{broken_unmatched}
use Rattle.patterns.specs.declared.Mode.{Mode}
use Rattle.wildmatch.specs.declared.Answer.{Answer}
use Rattle.wildmatch.specs.declared.Answer.TheVariants.{Unmatched, Matched, Broken}

-- no two answers are due at once, so two engines that are asked in a mode agree
module _ (m : Mode) (p t : List ℕ) where
  pub due_once : (a b : Answer) → Due m p t a → Due m p t b → a ≡ b
  unfolding Due
  due_once Unmatched Unmatched h k = refl
  due_once Unmatched Matched h k = absurd (h.1 k)
  due_once Unmatched (Broken n) h k = let z : ◌≡◌ {A = ℕ} 0 1 = cc in absurd (omega arith)
  due_once Matched Unmatched h k = absurd (k.1 h)
  due_once Matched Matched h k = refl
  due_once Matched (Broken n) h k = absurd (broken_unmatched m p t n k h)
  due_once (Broken n) Unmatched h k = let z : ◌≡◌ {A = ℕ} 0 1 = cc in absurd (omega arith)
  due_once (Broken n) Matched h k = absurd (broken_unmatched m p t n h k)
  due_once (Broken n) (Broken l) h k = let e : n ≡ l = cc in ap Broken e

module _ (p t : List ℕ) (f : ℕ) where
  abbrev C : ℕ → Type 0
  C = MatcherRefuses p t f

  -- nor are two given
  given_once : (a b : Result Answer Refusal) → Given p t f a → Given p t f b → a ≡ b
  unfolding Given
  given_once (Err r) (Err s) h l = ap Err (number_one r s (lowest_one C (number_of r) (number_of s) h l))
  given_once (Err r) (Ok b) h l = absurd (lowest_refuses C (number_of r) h l.0)
  given_once (Ok a) (Err s) h l = absurd (lowest_refuses C (number_of s) l h.0)
  given_once (Ok a) (Ok b) h l = ap Ok (due_once (mode_of f) p t a b h.1 l.1)

  -- an answer that is given is the call's
  pub answers : (a : Result Answer Refusal) → Given p t f a → Answered p t f a
  unfolding Answered
  answers a h = λ b. (λ e. subst (Given p t f) e h, λ k. given_once a b h k)

  -- and which is given, by what the code found
  pub gives_refused : (r : Refusal) → Lowest C (number_of r) → Given p t f (Err r)
  unfolding Given
  gives_refused r l = l

  module _ (a : Accepted C) where
    pub gives_matched : (m : Mode) (b : Bool) → m ≡ mode_of f → MatchDecided m p t b → b ≡ true → Given p t f (Ok Matched)
    unfolding Given Due
    gives_matched m b e d h = (a, subst (λ (k : Mode). Matches k p t) e (d.means.0 h))

    pub gives_broken : (n : ℕ) → Some n ≡ broken_at p → Given p t f (Ok (Broken n))
    unfolding Given Due
    gives_broken n e = (a, sym e)

    pub gives_unmatched : (m : Mode) (b : Bool) → m ≡ mode_of f → MatchDecided m p t b → b ≡ false → None ≡ broken_at p → Given p t f (Ok Unmatched)
    unfolding Given Due
    gives_unmatched m b e d h u = (a, (sym u, λ w. not_if_false d.means h (subst (λ (k : Mode). Matches k p t) (sym e) w)))

  -- two engines that keep this contract agree on every pattern, text and flags, so in all four modes
  pub answered_once : (a b : Result Answer Refusal) → Answered p t f a → Answered p t f b → a ≡ b
  unfolding Answered
  answered_once a b h k = sym ((k a).1 ((h a).0 refl))

-- an answer is fixed by its number and values
pub answer_fixed : (a b : Result Answer Refusal) → code_of a ≡ code_of b → values_of a ≡ values_of b → a ≡ b
unfolding code_of values_of
answer_fixed (Ok Unmatched) (Ok Unmatched) e v = refl
answer_fixed (Ok Unmatched) (Ok Matched) e v = absurd (omega arith)
answer_fixed (Ok Unmatched) (Ok (Broken k)) e v = absurd (omega arith)
answer_fixed (Ok Unmatched) (Err s) e v = absurd (omega arith)
answer_fixed (Ok Matched) (Ok Unmatched) e v = absurd (omega arith)
answer_fixed (Ok Matched) (Ok Matched) e v = refl
answer_fixed (Ok Matched) (Ok (Broken k)) e v = absurd (omega arith)
answer_fixed (Ok Matched) (Err s) e v = absurd (omega arith)
answer_fixed (Ok (Broken n)) (Ok Unmatched) e v = absurd (omega arith)
answer_fixed (Ok (Broken n)) (Ok Matched) e v = absurd (omega arith)
answer_fixed (Ok (Broken n)) (Ok (Broken k)) e v = let q : n ≡ k = cc in ap (λ (place : ℕ). Ok (Broken place)) q
answer_fixed (Ok (Broken n)) (Err s) e v = absurd (omega arith)
answer_fixed (Err r) (Ok Unmatched) e v = absurd (omega arith)
answer_fixed (Err r) (Ok Matched) e v = absurd (omega arith)
answer_fixed (Err r) (Ok (Broken k)) e v = absurd (omega arith)
answer_fixed (Err r) (Err s) e v = ap Err (number_one r s (omega arith))

-- the code of an answer, whose refusal is told by its number
pub code_given : (a : Result Answer Refusal) (code : ℕ) → IfOk a (λ given. code ≡ code_of (Ok given))
    → IfErr a (λ r. (number : ℕ) × (number ≡ number_of r) × (code ≡ 16 + number)) → code ≡ code_of a
unfolding code_of
code_given (Ok given) code ok refused = ok
code_given (Err r) code ok refused = refused.2 ∙ ap (λ (n : ℕ). 16 + n) refused.1

-- Complete answers: a refusal has one number, no other answer is one, each number has so many values, and an answer is fixed by them.
use Prim.Native.Nat.{ℕ, zero, suc, ◌+◌, ◌-◌, ◌≤◌, ◌<◌}
use native.Mathlib.Omega.{arith}
use mathlib.Core.Path.{◌≡◌, refl, sym, ap, subst, ◌∙◌}
use mathlib.Core.Logic.{◌⊎◌, inl, inr, ⊎_elim, ◌↔◌}
use Rattle.std.proofs.lemmas.Bool.{cases_lt}
use Rattle.std.specs.Prelude.{None, Some, Ok, Err, IfOk, IfErr}
use mathlib.Core.List.{List, [], ◌∷◌, cons≢nil}
use lib.ListN.{length, get_or}
use Rattle.rulefiles.specs.declared.Place.{Place}
use Rattle.refusals.specs.Refusals.{Lowest, Accepted}
use Rattle.refusals.proofs.LowestLaws.{none_lowest}
use Rattle.ignorelines.specs.declared.Verdict.{Verdict}
use Rattle.ignorelines.specs.declared.Verdict.TheVariants.{Ignored, Reincluded}
use Rattle.attributelines.specs.declared.State.{State}
use Rattle.attributelines.specs.declared.State.TheVariants.{Set, Unset, Value, Unspecified}
use Rattle.answers.specs.Complete.{Complete, refusal, verdict_number, state_number, state_values, decided, stated, IgnoreAnswer, AttributeAnswer, complete_ignore, complete_attribute}
use Rattle.refusals.specs.declared.refusal.Refusal.{Refusal}
use Rattle.refusals.specs.Numbers.{number_of}
use Rattle.refusals.proofs.NumberLaws.{refusal_of, refusal_of_number}

pub refusal_one : (n k : ℕ) → refusal n ≡ refusal k → n ≡ k
refusal_one n k e = let z : 16 + n ≡ 16 + k = ap (λ (c : Complete). c.number) e in omega (arith, z)

pub small_not_refused : (a : Complete) (n : ℕ) → a.number ≤ 4 → a ≡ refusal n → ⊥
small_not_refused a n small e = let z : a.number ≡ 16 + n = ap (λ (c : Complete). c.number) e in omega (arith, z, small)

-- The numbers of decided answers.

pub state-small : (s : State) → state_number s ≤ 4
unfolding state_number
state-small Set = omega arith
state-small Unset = omega arith
state-small (Value v) = omega arith
state-small Unspecified = omega arith

pub verdict-small : (v : Verdict) → verdict_number v ≤ 4
verdict-small Ignored = omega arith
verdict-small Reincluded = omega arith

-- What an answer that meets a question's contract is: refused alike, and alike where the question is accepted.

alike : (a : Complete) (n : ℕ) (vs : List ℕ) → a.number ≡ n → a.values ≡ vs → a ≡ record { number = n; values = vs }
alike a n vs e f = rw (sym e, sym f)

refusal_or_not : (a : Complete) → ((n : ℕ) × (a ≡ refusal n)) ⊎ ((n : ℕ) → a ≡ refusal n → ⊥)
refusal_or_not a = go a.values refl
  where
    go : (vs : List ℕ) → a.values ≡ vs → ((n : ℕ) × (a ≡ refusal n)) ⊎ ((n : ℕ) → a ≡ refusal n → ⊥)
    go (v ∷ vs) f = inr (λ n e. cons≢nil (sym f ∙ ap (λ (c : Complete). c.values) e))
    go [] f =
        ⊎_elim (λ l. inr (λ n e. let z : a.number ≡ 16 + n = ap (λ (c : Complete). c.number) e in omega (arith, z, l)))
        (λ l. inl (a.number - 16, alike a (16 + (a.number - 16)) [] (omega (arith, l)) f))
        (cases_lt a.number 16)

module _ (C : ℕ → Type 0) (answer : Complete) where
  -- a number from 16 on is a refusal's
  pub number-refused : (a : Complete) (n : ℕ) → ((k : ℕ) → (a ≡ refusal k) ↔ Lowest C k) → (Accepted C → a ≡ answer) → answer.number ≤ 4 → (a.number ≡ 16 + n) ↔ Lowest C n
  number-refused a n refused accepted small = (by (refusal_or_not a), λ l. ap (λ (c : Complete). c.number) ((refused n).1 l))
    where
      by : ((k : ℕ) × (a ≡ refusal k)) ⊎ ((k : ℕ) → a ≡ refusal k → ⊥) → a.number ≡ 16 + n → Lowest C n
      by (inl r) e = let z : a.number ≡ 16 + r.0 = ap (λ (c : Complete). c.number) r.1 in let q : r.0 ≡ n = omega (arith, z, e) in subst (Lowest C) q ((refused r.0).0 r.1)
      by (inr never) e =
          let z : a.number ≡ answer.number = ap (λ (c : Complete). c.number) (accepted (none_lowest C (λ k l. never k ((refused k).1 l)))) in
          absurd (omega (arith, z, e, small))

  pub one_complete : (a b : Complete) → ((n : ℕ) → (a ≡ refusal n) ↔ Lowest C n) → ((n : ℕ) → (b ≡ refusal n) ↔ Lowest C n) → (Accepted C → a ≡ answer) → (Accepted C → b ≡ answer) → a ≡ b
  one_complete a b ra rb aa ab = go (refusal_or_not a)
    where
      go : ((n : ℕ) × (a ≡ refusal n)) ⊎ ((n : ℕ) → a ≡ refusal n → ⊥) → a ≡ b
      go (inl e) = e.1 ∙ sym ((rb e.0).1 ((ra e.0).0 e.1))
      go (inr e) = let all = none_lowest C (λ n h. e n ((ra n).1 h)) in aa all ∙ sym (ab all)

-- How many values a number has: "nothing said gives no numbers", and "A refusal carries its number and nothing else."

abbrev ignore_count : ℕ → ℕ
ignore_count zero = 0
ignore_count (suc zero) = 3
ignore_count (suc (suc zero)) = 3
ignore_count (suc (suc (suc n))) = 0

ignore_none : (m : ℕ) → 4 < m → 0 ≡ ignore_count m
ignore_none zero h = absurd (omega arith)
ignore_none (suc zero) h = absurd (omega arith)
ignore_none (suc (suc zero)) h = absurd (omega arith)
ignore_none (suc (suc (suc m))) h = refl

decided_count : (v : Verdict) (n : ℕ) (p : Place) → length (decided v n p).values ≡ ignore_count (decided v n p).number
decided_count Ignored n p = refl
decided_count Reincluded n p = refl

pub ignore_count_lem : (a : IgnoreAnswer) → length (complete_ignore a).values ≡ ignore_count (complete_ignore a).number
unfolding complete_ignore
ignore_count_lem (Ok None) = refl
ignore_count_lem (Ok (Some e)) = decided_count e.decision.what e.length e.decision.place
ignore_count_lem (Err r) = ignore_none (16 + number_of r) (omega arith)

abbrev attribute_count : ℕ → ℕ
attribute_count zero = 0
attribute_count (suc zero) = 2
attribute_count (suc (suc zero)) = 2
attribute_count (suc (suc (suc zero))) = 4
attribute_count (suc (suc (suc (suc zero)))) = 2
attribute_count (suc (suc (suc (suc (suc n))))) = 0

attribute_none : (m : ℕ) → 4 < m → 0 ≡ attribute_count m
attribute_none zero h = absurd (omega arith)
attribute_none (suc zero) h = absurd (omega arith)
attribute_none (suc (suc zero)) h = absurd (omega arith)
attribute_none (suc (suc (suc zero))) h = absurd (omega arith)
attribute_none (suc (suc (suc (suc zero)))) h = absurd (omega arith)
attribute_none (suc (suc (suc (suc (suc m))))) h = refl

stated_count : (s : State) (p : Place) → length (stated s p).values ≡ attribute_count (state_number s)
unfolding state_number state_values
stated_count Set p = refl
stated_count Unset p = refl
stated_count (Value v) p = refl
stated_count Unspecified p = refl

pub attribute_count_lem : (a : AttributeAnswer) → length (complete_attribute a).values ≡ attribute_count (complete_attribute a).number
unfolding complete_attribute
attribute_count_lem (Ok None) = refl
attribute_count_lem (Ok (Some d)) = stated_count d.what d.place
attribute_count_lem (Err r) = attribute_none (16 + number_of r) (omega arith)

-- From the number and the values back to the answer.

abbrev place_at : ℕ → Complete → Place
place_at i c = record { file = get_or c.values i 0; line = get_or c.values (suc i) 0 }

-- what an entry's decision of this number is
abbrev entry_from : Verdict → Complete → IgnoreAnswer
entry_from v c = Ok (Some (record { length = get_or c.values 0 0; decision = record { what = v; place = place_at 1 c } }))

abbrev ignore_from : ℕ → Complete → IgnoreAnswer
ignore_from zero c = Ok None
ignore_from (suc zero) c = entry_from Ignored c
ignore_from (suc (suc zero)) c = entry_from Reincluded c
ignore_from (suc (suc (suc n))) c = Err (refusal_of (c.number - 16))

ignore_far : (m : ℕ) (c : Complete) → 4 < m → ignore_from m c ≡ Err (refusal_of (c.number - 16))
ignore_far zero c h = absurd (omega arith)
ignore_far (suc zero) c h = absurd (omega arith)
ignore_far (suc (suc zero)) c h = absurd (omega arith)
ignore_far (suc (suc (suc m))) c h = refl

-- a refusal is known again by its number
refused_back : (r : Refusal) → refusal_of (16 + number_of r - 16) ≡ r
refused_back r = let e : 16 + number_of r - 16 ≡ number_of r = omega arith in ap refusal_of e ∙ refusal_of_number r

decided_back : (v : Verdict) (n : ℕ) (p : Place)
    → ignore_from (decided v n p).number (decided v n p) ≡ Ok (Some (record { length = n; decision = record { what = v; place = p } }))
decided_back Ignored n p = refl
decided_back Reincluded n p = refl

ignore_back : (a : IgnoreAnswer) → ignore_from (complete_ignore a).number (complete_ignore a) ≡ a
unfolding complete_ignore
ignore_back (Ok None) = refl
ignore_back (Ok (Some e)) = decided_back e.decision.what e.length e.decision.place
ignore_back (Err r) = ignore_far (16 + number_of r) (refusal (number_of r)) (omega arith) ∙ ap Err (refused_back r)

pub ignore_once : (a b : IgnoreAnswer) → complete_ignore a ≡ complete_ignore b → a ≡ b
ignore_once a b e = sym (ignore_back a) ∙ ap (λ (c : Complete). ignore_from c.number c) e ∙ ignore_back b

-- what a decided state at this place of the values is
abbrev state_from : State → ℕ → Complete → AttributeAnswer
state_from s i c = Ok (Some (record { what = s; place = place_at i c }))

abbrev attribute_from : ℕ → Complete → AttributeAnswer
attribute_from zero c = Ok None
attribute_from (suc zero) c = state_from Set 0 c
attribute_from (suc (suc zero)) c = state_from Unset 0 c
attribute_from (suc (suc (suc zero))) c = state_from (Value (record { start = get_or c.values 0 0; length = get_or c.values 1 0 })) 2 c
attribute_from (suc (suc (suc (suc zero)))) c = state_from Unspecified 0 c
attribute_from (suc (suc (suc (suc (suc n))))) c = Err (refusal_of (c.number - 16))

attribute_far : (m : ℕ) (c : Complete) → 4 < m → attribute_from m c ≡ Err (refusal_of (c.number - 16))
attribute_far zero c h = absurd (omega arith)
attribute_far (suc zero) c h = absurd (omega arith)
attribute_far (suc (suc zero)) c h = absurd (omega arith)
attribute_far (suc (suc (suc zero))) c h = absurd (omega arith)
attribute_far (suc (suc (suc (suc zero)))) c h = absurd (omega arith)
attribute_far (suc (suc (suc (suc (suc m))))) c h = refl

stated_back : (s : State) (p : Place) → attribute_from (state_number s) (stated s p) ≡ Ok (Some (record { what = s; place = p }))
unfolding state_number state_values
stated_back Set p = refl
stated_back Unset p = refl
stated_back (Value v) p = refl
stated_back Unspecified p = refl

attribute_back : (a : AttributeAnswer) → attribute_from (complete_attribute a).number (complete_attribute a) ≡ a
unfolding complete_attribute
attribute_back (Ok None) = refl
attribute_back (Ok (Some d)) = stated_back d.what d.place
attribute_back (Err r) = attribute_far (16 + number_of r) (refusal (number_of r)) (omega arith) ∙ ap Err (refused_back r)

pub attribute_once : (a b : AttributeAnswer) → complete_attribute a ≡ complete_attribute b → a ≡ b
attribute_once a b e = sym (attribute_back a) ∙ ap (λ (c : Complete). attribute_from c.number c) e ∙ attribute_back b

-- the number of a complete answer, whose refusal is told by its number
pub ignore_number : (a : IgnoreAnswer) (code : ℕ) → IfOk a (λ decided. code ≡ (complete_ignore (Ok decided)).number)
    → IfErr a (λ r. (number : ℕ) × (number ≡ number_of r) × (code ≡ (refusal number).number)) → code ≡ (complete_ignore a).number
unfolding complete_ignore
ignore_number (Ok decided) code ok refused = ok
ignore_number (Err r) code ok refused = refused.2 ∙ ap (λ (n : ℕ). (refusal n).number) refused.1

pub attribute_number : (a : AttributeAnswer) (code : ℕ) → IfOk a (λ decided. code ≡ (complete_attribute (Ok decided)).number)
    → IfErr a (λ r. (number : ℕ) × (number ≡ number_of r) × (code ≡ (refusal number).number)) → code ≡ (complete_attribute a).number
unfolding complete_attribute
attribute_number (Ok decided) code ok refused = ok
attribute_number (Err r) code ok refused = refused.2 ∙ ap (λ (n : ℕ). (refusal n).number) refused.1

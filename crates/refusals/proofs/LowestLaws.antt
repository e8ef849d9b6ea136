-- The lowest refusal is one, and an accepted question has none.
use mathlib.Core.Path.{◌≡◌, refl}
use mathlib.Core.Logic.Iff
use mathlib.Core.Logic.{◌⊎◌, inl, inr, ⊎_elim, ◌↔◌}
use mathlib.Core.Bool.{Bool, true, ◌&&◌}
use mathlib.Core.List.{List}
use Prim.Native.Nat.{ℕ, zero, suc, ◌<◌}
use native.Mathlib.Omega.{arith}
use lib.Dec.{ltb}
use borrow.Author.Tests.{ltb-true}
use Rattle.std.proofs.lemmas.Bool.{and_parts, cases_lt}
use Rattle.refusals.specs.Refusals.{TooLong, HoldsZero, FlagsHigh, Lowest, Accepted, LowestOrNone, MatcherRefuses}
use Rattle.refusals.specs.inner.Checks.{Checks, done, check, FirstHolding}

-- two numbers that are each the lowest are the same
pub lowest_one : (C : ℕ → Type 0) (n k : ℕ) → Lowest C n → Lowest C k → n ≡ k
unfolding Lowest
lowest_one C n k a b =
    ⊎_elim (λ l. absurd (b.1 n l a.0)) (λ l. ⊎_elim (λ h. absurd (a.1 k h b.0)) (λ h. omega arith) (cases_lt k n)) (cases_lt n k)

pub lowest_refuses : (C : ℕ → Type 0) (n : ℕ) → Lowest C n → Accepted C → ⊥
unfolding Lowest Accepted
lowest_refuses C n a b = b n a.0

-- where no refusal is the lowest, none holds: the first below a number that held would be the lowest
none_below : (C : ℕ → Type 0) → ((n : ℕ) → Lowest C n → ⊥) → (m n : ℕ) → n < m → C n → ⊥
unfolding Lowest
none_below C none zero n h c = absurd (omega arith)
none_below C none (suc m) n h c = none n (c, λ k l d. none_below C none m k (omega arith) d)

pub none_lowest : (C : ℕ → Type 0) → ((n : ℕ) → Lowest C n → ⊥) → Accepted C
unfolding Accepted
none_lowest C none n c = none_below C none (suc n) n (omega arith) c

-- The checks of a call in their order: the first that holds is the lowest refusal.

-- n is the number of one of the tests, and its condition holds
abbrev pub Any : Checks → ℕ → Type 0
Any done n = ⊥
Any (check k P done) n = (n ≡ k) × P
Any (check k P (check j Q cs)) n = ((n ≡ k) × P) ⊎ Any (check j Q cs) n

-- the tests' numbers rise, from above j
abbrev pub rises : ℕ → Checks → Bool
rises j done = true
rises j (check k P cs) = ltb j k && rises k cs

any_cons : (k : ℕ) (P : Type 0) (cs : Checks) (n : ℕ) → Any (check k P cs) n ↔ ((n ≡ k) × P) ⊎ Any cs n
any_cons k P done n = (λ a. inl a, λ s. ⊎_elim (λ a. a) (λ b. absurd b) s)
any_cons k P (check j Q cs) n = Iff.rfl

above : (cs : Checks) (j n : ℕ) → rises j cs ≡ true → Any cs n → j < n
above done j n r a = absurd a
above (check k P cs) j n r a =
    let p = and_parts (ltb j k) (rises k cs) r in
    let l = ltb-true j k p.0 in
    ⊎_elim (λ e. omega (arith, e.0)) (λ b. omega (arith, above cs k n p.1 b)) ((any_cons k P cs n).0 a)

pub holding_found : (cs : Checks) (j n : ℕ) → rises j cs ≡ true → FirstHolding cs n → LowestOrNone (Any cs) n
unfolding Lowest Accepted
holding_found done j n r t = record { lowest = λ q. absurd (q t); accepted = λ q k a. a }
holding_found (check k P cs) j n r (inl h) =
    let p = and_parts (ltb j k) (rises k cs) r in
    let l = ltb-true j k p.0 in
    record {
      lowest = λ q. ((any_cons k P cs n).1 (inl h), λ i b a. ⊎_elim (λ e. omega (arith, e.0, h.0)) (λ c. omega (arith, h.0, above cs k i p.1 c)) ((any_cons k P cs i).0 a));
      accepted = λ q. absurd (omega (arith, h.0));
    }
holding_found (check k P cs) j n r (inr h) =
    let f = holding_found cs k n (and_parts (ltb j k) (rises k cs) r).1 h.1 in
    record {
      lowest = λ q. let l = f.lowest q in ((any_cons k P cs n).1 (inr l.0), λ i b a. ⊎_elim (λ e. h.0 e.1) (l.1 i b) ((any_cons k P cs i).0 a));
      accepted = λ q i a. ⊎_elim (λ e. h.0 e.1) (f.accepted q i) ((any_cons k P cs i).0 a);
    }

-- tests, and more tests after them
abbrev pub followed : Checks → Checks → Checks
followed done us = us
followed (check k P cs) us = check k P (followed cs us)

pub holding_first : (cs us : Checks) (n : ℕ) → FirstHolding cs n → (n ≡ 0 → ⊥) → FirstHolding (followed cs us) n
holding_first done us n t q = absurd (q t)
holding_first (check k P cs) us n (inl h) q = inl h
holding_first (check k P cs) us n (inr h) q = inr (h.0, holding_first cs us n h.1 q)

pub holding_second : (cs us : Checks) (j m n : ℕ) → rises j cs ≡ true → FirstHolding cs m → m ≡ 0 → FirstHolding us n → FirstHolding (followed cs us) n
holding_second done us j m n r t q u = u
holding_second (check k P cs) us j m n r (inl h) q u = absurd (omega (arith, h.0, ltb-true j k (and_parts (ltb j k) (rises k cs) r).0))
holding_second (check k P cs) us j m n r (inr h) q u = inr (h.0, holding_second cs us k m n (and_parts (ltb j k) (rises k cs) r).1 h.1 q u)

-- a check among others may stand last
pub any_last : (cs : Checks) (k : ℕ) (P : Type 0) (us : Checks) (n : ℕ) → Any (followed cs (check k P us)) n ↔ Any (followed cs us) n ⊎ ((n ≡ k) × P)
any_last done k P us n = let c = any_cons k P us n in (λ a. ⊎_elim (λ h. inr h) (λ b. inl b) (c.0 a), λ s. c.1 (⊎_elim (λ b. inr b) (λ h. inl h) s))
any_last (check j Q cs) k P us n =
    let c = any_cons j Q (followed cs (check k P us)) n in
    let d = any_cons j Q (followed cs us) n in
    let r = any_last cs k P us n in (
      λ a. ⊎_elim (λ h. inl (d.1 (inl h))) (λ b. ⊎_elim (λ x. inl (d.1 (inr x))) (λ h. inr h) (r.0 b)) (c.0 a),
      λ s. c.1 (⊎_elim (λ a. ⊎_elim (λ h. inl h) (λ b. inr (r.1 (inl b))) (d.0 a)) (λ h. inr (r.1 (inr h))) s),
    )

pub found_same : (C D : ℕ → Type 0) (n : ℕ) → ((k : ℕ) → C k ↔ D k) → LowestOrNone C n → LowestOrNone D n
unfolding Lowest Accepted
found_same C D n e f =
    record { lowest = λ q. let l = f.lowest q in ((e n).0 l.0, λ k b d. l.1 k b ((e k).1 d)); accepted = λ q k d. f.accepted q k ((e k).1 d) }

-- The matcher's refusals, by its tests in their order.
module _ (p t : List ℕ) (f : ℕ) where
  matcher_found : (n : ℕ) → FirstHolding (check 7 (TooLong p t) (check 8 (HoldsZero p ⊎ HoldsZero t) (check 9 (FlagsHigh f) done))) n → LowestOrNone (MatcherRefuses p t f) n
  unfolding MatcherRefuses
  matcher_found n h = holding_found (check 7 (TooLong p t) (check 8 (HoldsZero p ⊎ HoldsZero t) (check 9 (FlagsHigh f) done))) 0 n refl h

  pub refuses_7 : TooLong p t → Lowest (MatcherRefuses p t f) 7
  refuses_7 h = (matcher_found 7 (inl (refl, h))).lowest (λ e. omega arith)

  pub refuses_8 : (TooLong p t → ⊥) → HoldsZero p ⊎ HoldsZero t → Lowest (MatcherRefuses p t f) 8
  refuses_8 n h = (matcher_found 8 (inr (n, inl (refl, h)))).lowest (λ e. omega arith)

  pub refuses_9 : (TooLong p t → ⊥) → (HoldsZero p → ⊥) → (HoldsZero t → ⊥) → FlagsHigh f → Lowest (MatcherRefuses p t f) 9
  refuses_9 n z w h = (matcher_found 9 (inr (n, inr (⊎_elim z w, inl (refl, h))))).lowest (λ e. omega arith)

  pub refuses_none : (TooLong p t → ⊥) → (HoldsZero p → ⊥) → (HoldsZero t → ⊥) → (FlagsHigh f → ⊥) → Accepted (MatcherRefuses p t f)
  refuses_none n z w h = (matcher_found 0 (inr (n, inr (⊎_elim z w, inr (h, refl))))).accepted refl

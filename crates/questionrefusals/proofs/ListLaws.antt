-- The ends and the bases, one after the other.
use mathlib.Core.Path.{◌≡◌, refl, sym, subst, ◌∙◌}
use mathlib.Core.Logic.Iff
use mathlib.Core.Logic.{◌⊎◌, inl, inr, ⊎_elim, ◌↔◌}
use mathlib.Core.Bool.{Bool, true, false, not, ◌||◌, or-true}
use mathlib.Core.List.{List, [], ◌∷◌}
use Prim.Native.Nat.{ℕ, suc, ◌+◌, ◌-◌, ◌<◌, ◌≤◌}
use native.Mathlib.Omega.{arith}
use lib.Dec.{eqb, leb}
use lib.ListN.{length, get_or}
use Rattle.std.proofs.lemmas.Bool.{and_parts, or_cases, cases_lt}
use Rattle.bytestrings.specs.Text.{char}
use Rattle.refusals.specs.Limits.{files_limit}
use Rattle.questionrefusals.specs.Conditions.{EndBelow, last_end, GoodBase, BaseMisplaced, BadLists}
use Rattle.bytestrings.proofs.BoolLaws.{yes_iff, not_if_false, differs}
use borrow.Author.Tests.{leb-true, le-leb}
use Rattle.bytestrings.proofs.AnyLaws.{any_found}
use Rattle.std.specs.Prelude.{Some}
use Rattle.std.specs.Ordering.{is_le, is_some_and, nat_cmp}
use Rattle.std.specs.Bool.{MatchBool}
use Rattle.std.specs.List.{IsAllAdjacentAnswer, list_any}
use Rattle.std.specs.List.Sorted.{IsNonDecreasing}
use Rattle.std.proofs.lemmas.List.Sorted.{non_decreasing_from_is_sorted}
use Rattle.questionrefusals.specs.inner.Scans.{base_bad}
use native.Mathlib.Numerals.{add-one}

pub last_zero : (ends : List ℕ) → last_end ends ≡ last_end (0 ∷ ends)
last_zero [] = refl
last_zero (e ∷ ends) = refl

pub last_none : (ends : List ℕ) → length ends < 1 → 0 ≡ last_end ends
last_none [] h = refl
last_none (e ∷ ends) h = absurd (omega arith)

pub last_some : (ends : List ℕ) → 1 ≤ length ends → get_or ends (length ends - 1) 0 ≡ last_end ends
last_some [] h = absurd (omega arith)
last_some (e ∷ []) h = refl
last_some (e ∷ n ∷ ends) h = let q : length (e ∷ n ∷ ends) - 1 ≡ suc (length (n ∷ ends) - 1) = omega arith in rw q (last_some (n ∷ ends) (omega arith))

-- Ends, by their order and by the last one.
module _ (ends : List ℕ) (sorted : Bool) (d : IsAllAdjacentAnswer (λ x y b. is_some_and is_le (Some (nat_cmp x y)) ≡ b) ends sorted) where
  ends_fall : sorted ≡ false → EndBelow ends
  unfolding EndBelow
  ends_fall e =
      let h : MatchBool false (IsNonDecreasing ends) ((k : ℕ) × (k + 1 < length ends) × ((d : ℕ) → get_or ends (k + 1) d < get_or ends k d)) =
      subst (λ b. MatchBool b (IsNonDecreasing ends) ((k : ℕ) × (k + 1 < length ends) × ((d : ℕ) → get_or ends (k + 1) d < get_or ends k d))) e (non_decreasing_from_is_sorted ends sorted d) in
      (h.0, omega (arith, h.1), rw (sym (add-one h.0)) (h.2 0))

  ends_rise : sorted ≡ true → EndBelow ends → ⊥
  unfolding EndBelow
  ends_rise e b =
      let h : IsNonDecreasing ends =
      subst (λ b. MatchBool b (IsNonDecreasing ends) ((k : ℕ) × (k + 1 < length ends) × ((d : ℕ) → get_or ends (k + 1) d < get_or ends k d))) e (non_decreasing_from_is_sorted ends sorted d) in
      omega (arith, b.2, h b.0 (suc b.0) 0 (omega arith) b.1)

  pub ends_unsorted : sorted ≡ false → (n : ℕ) → (not sorted ≡ true) ↔ (EndBelow ends ⊎ (last_end ends ≡ n → ⊥))
  ends_unsorted e n = (λ q. inl (ends_fall e), λ b. rw e)

  pub ends_sorted : sorted ≡ true → (n last : ℕ) → last ≡ last_end ends → (not (eqb last n) ≡ true) ↔ (EndBelow ends ⊎ (last_end ends ≡ n → ⊥))
  ends_sorted e n last q =
      Iff.trans (differs last n) (λ b. inr (λ h. b (q ∙ h)), λ b. ⊎_elim (λ f. absurd (ends_rise e f)) (λ f h. f (sym q ∙ h)) b)

-- A base, by its test.
base_means : (path : List ℕ) (base : ℕ) → (base_bad path base ≡ true) ↔ (GoodBase path base → ⊥)
unfolding base_bad
base_means path base = (
  λ e g. let p = and_parts (not (eqb base 0)) (leb (length path) base || not (eqb (get_or path (base - 1) 0) (char "/"))) e in
      ⊎_elim ((differs base 0).0 p.0)
      (λ h. ⊎_elim (λ (q : leb (length path) base ≡ true). omega (arith, h.0, leb-true (length path) base q)) (λ q. (differs _ _).0 q h.1) (or_cases _ _ p.1))
      g,
  λ n. let zero : base ≡ 0 → ⊥ = λ e. n (inl e) in
      rw ((differs base 0).1 zero)
      (⊎_elim (λ l. rw ((differs _ (char "/")).1 (λ e. n (inr (l, e)))) (or-true (leb (length path) base))) (λ l. rw (le-leb (length path) base l)) (cases_lt base (length path))),
)

bases_mean : (path bases : List ℕ) (r : Bool) → r ≡ list_any (base_bad path) bases → (r ≡ true) ↔ BaseMisplaced path bases
unfolding BaseMisplaced
bases_mean path bases r e = any_found (base_bad path) (λ b. GoodBase path b → ⊥) (base_means path) bases r e

-- The two lists, by the tests in their order.
module _ (path rules ends bases : List ℕ) where
  pub lists_long : files_limit < length ends → (true ≡ true) ↔ BadLists path rules ends bases
  unfolding BadLists
  lists_long h = yes_iff (inr (inl h))

  module _ (e : Bool) (d : (e ≡ true) ↔ (EndBelow ends ⊎ (last_end ends ≡ length rules → ⊥))) where
    pub lists_ends : e ≡ true → (true ≡ true) ↔ BadLists path rules ends bases
    unfolding BadLists
    lists_ends h = yes_iff (inr (inr (⊎_elim (λ b. inl b) (λ b. inr (inl b)) (d.0 h))))

    pub lists_bases : length ends ≡ length bases → length ends ≤ files_limit → e ≡ false → (r : Bool) → r ≡ list_any (base_bad path) bases
        → (r ≡ true) ↔ BadLists path rules ends bases
    unfolding BadLists
    lists_bases l f h r g =
        let fine = not_if_false d h in
        let m = bases_mean path bases r g in (
          λ q. inr (inr (inr (inr (m.0 q)))),
          λ b. ⊎_elim (λ x. absurd (x l)) (λ b. ⊎_elim (λ x. absurd (omega arith)) (λ b. ⊎_elim (λ x. absurd (fine (inl x))) (λ b. ⊎_elim (λ x. absurd (fine (inr x))) m.1 b) b) b) b,
        )

-- Whether a test holds of one of some bytes: all read, or in two parts that cover them.
use mathlib.Core.Path.{◌≡◌, refl, sym, ap, subst, ◌∙◌}
use mathlib.Core.Logic.{⊎_elim, ◌↔◌}
use mathlib.Core.Bool.{Bool, true, false, ◌||◌, or-true, false≢true}
use mathlib.Core.List.Memᴰ
use mathlib.Core.List.{List, [], ◌∷◌, ◌++◌, Memᴰ}
use Prim.Native.Nat.{ℕ, zero, suc, ◌+◌, ◌-◌, ◌<◌, ◌≤◌}
use native.Mathlib.Omega.{arith}
use lib.ListN.{length, take, drop, get_or, length-take}
use Rattle.std.proofs.lemmas.Bool.{or_cases}
use Rattle.std.specs.List.{list_any}
use Rattle.std.proofs.Common.{take-append-drop}
use Rattle.std.proofs.lemmas.List.Folds.{list_any-append, list_any_more}
use lib.Dec.{eqb}
use Rattle.std.proofs.lemmas.Bool.{or_parts, eq-eqb, eqb-true}
use Rattle.bytestrings.proofs.SliceLaws.{from, from-drop}

module _ (p : ℕ → Bool) where
  -- one byte more
  pub any_more : (s : List ℕ) (i : ℕ) (before r : Bool) → before ≡ list_any p (take i s) → i < length s → r ≡ p (get_or s i 0) → (before || r) ≡ list_any p (take (i + 1) s)
  any_more s i before r d l e = rw (d, e) (sym (list_any_more p s i 0 l))

  -- the bytes from a place before n on, where the first n have none
  from_before : (u t : List ℕ) (k : ℕ) → k ≤ length u → list_any p u ≡ false → list_any p (drop k (u ++ t)) ≡ list_any p t
  from_before [] t k h e = let q : k ≡ 0 = omega arith in rw q
  from_before (x ∷ u) t zero h e = list_any-append p (x ∷ u) t ∙ ap (λ b. b || list_any p t) e
  from_before (x ∷ u) t (suc k) h e = from_before u t k (omega arith) (or_parts (p x) (list_any p u) e).1

  module _ (s : List ℕ) (n : ℕ) (l : n ≤ length s) (m : length s ≤ n + n) (a : Bool) (d : a ≡ list_any p (take n s)) where
    whole : list_any p s ≡ (list_any p (take n s) || list_any p (drop n s))
    whole = ap (list_any p) (sym (take-append-drop n s)) ∙ list_any-append p (take n s) (drop n s)

    -- the first n of them, and the last n
    pub any_first : a ≡ true → a ≡ list_any p s
    any_first e = sym (whole ∙ rw (sym d ∙ e) (sym e))

    pub any_last : a ≡ false → (r : Bool) → r ≡ list_any p (from (length s - n) s) → r ≡ list_any p s
    any_last e r f =
        let none : list_any p (take n s) ≡ false = sym d ∙ e in
        let k = length s - n in
        f ∙ ap (list_any p) (from-drop k s) ∙ ap (λ u. list_any p (drop k u)) (sym (take-append-drop n s))
        ∙ from_before (take n s) (drop n s) k (simp length-take (omega arith)) none ∙ sym (whole ∙ ap (λ b. b || list_any p (drop n s)) none)

-- what the test means of a byte, it means of the bytes
any_holds : (p : ℕ → Bool) (P : ℕ → Type 0) → ((b : ℕ) → (p b ≡ true) ↔ P b) → (s : List ℕ) → (list_any p s ≡ true) ↔ ((b : ℕ) × Memᴰ b s × P b)
any_holds p P d [] = (λ e. absurd (false≢true e), λ m. absurd (Memᴰ.not-nil m.1))
any_holds p P d (x ∷ s) =
    let h = any_holds p P d s in (
      λ e. ⊎_elim (λ q. (x, Memᴰ.head refl, (d x).0 q)) (λ q. let m = h.0 q in (m.0, Memᴰ.tail m.1, m.2)) (or_cases (p x) (list_any p s) e),
      λ m. ⊎_elim (λ q. rw ((d x).1 (subst P q m.2))) (λ q. rw (h.1 (m.0, q, m.2)) (or-true (p x))) (Memᴰ.cases_cons m.1),
    )

-- the same of a result, and of one byte by itself
pub any_found : (p : ℕ → Bool) (P : ℕ → Type 0) → ((b : ℕ) → (p b ≡ true) ↔ P b) → (s : List ℕ) (r : Bool) → r ≡ list_any p s → (r ≡ true) ↔ ((b : ℕ) × Memᴰ b s × P b)
any_found p P d s r e = let h = any_holds p P d s in (λ q. h.0 (sym e ∙ q), λ m. e ∙ h.1 m)

pub byte_found : (c : ℕ) (s : List ℕ) (r : Bool) → r ≡ list_any (λ b. eqb b c) s → (r ≡ true) ↔ Memᴰ c s
byte_found c s r e =
    let h = any_found (λ b. eqb b c) (λ b. b ≡ c) (λ b. (eqb-true b c, eq-eqb b c)) s r e in
    (λ q. let m = h.0 q in subst (λ b. Memᴰ b s) m.2 m.1, λ m. h.1 (c, m, refl))

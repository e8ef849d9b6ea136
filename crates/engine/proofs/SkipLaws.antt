-- The places that a run within a component passes over.
use mathlib.Core.Path.{◌≡◌, refl, sym, ap, ◌∙◌}
use mathlib.Core.Logic.{⊎_elim}
use mathlib.Core.Bool.{true, false}
use mathlib.Core.List.{List, [], ◌∷◌}
use Rattle.std.proofs.lemmas.Bool.{cases_lt}
use Rattle.std.specs.Prelude.{None}
use Prim.Native.Nat.{ℕ, ◌<◌, ◌≤◌}
use native.Mathlib.Omega.{arith}
use lib.Dec.{eqb}
use lib.ListN.{length, drop, get_or, length-drop}
use lib.Seq.{drop-cons}
use Rattle.bytestrings.specs.Text.{char}
use Rattle.bytestrings.specs.Letters.{folded}
use Rattle.patterns.proofs.ItemLaws.{literal_read}
use Rattle.patterns.proofs.TailLaws.{tail_one, tail_nil}
use Rattle.engine.proofs.SegmentLaws.{first, mismatch}
use Rattle.patterns.specs.Patterns.{literal}
use Rattle.patterns.specs.Sharing.{inside, accepts}
use Rattle.patterns.specs.Items.{is_literal, taken}
use Rattle.engine.specs.inner.Outcomes.{Passed, Skipped}
use Rattle.patterns.specs.declared.Mode.{Mode}

module _ (m : Mode) (P : ℕ → Type 0) (t : List ℕ) (k : ℕ) where
  pub passed_by : (n : ℕ) → k ≤ n → n ≤ length t → ((j : ℕ) → j < n → k ≤ j → (inside m (get_or t j 0) ≡ true) × P j) → Passed m P t k n
  unfolding Passed
  passed_by n a b h = (a, b, h)

  pub passed_begin : k ≤ length t → Passed m P t k k
  unfolding Passed
  passed_begin l = (omega arith, l, λ j a b. absurd (omega arith))

  pub passed_fits : (n : ℕ) → Passed m P t k n → (k ≤ n) × (n ≤ length t)
  unfolding Passed
  passed_fits n h = (h.0, h.1)

  pub passed_of : (Q : ℕ → Type 0) (n : ℕ) → Passed m P t k n → ((j : ℕ) → j < length t → P j → Q j) → Passed m Q t k n
  unfolding Passed
  passed_of Q n h f = (h.0, h.1, λ j a b. let g = h.2 j a b in (g.0, f j (omega (arith, h.1)) g.1))

pub skipped_none : (m : Mode) (p t : List ℕ) (k : ℕ) → k ≤ length t → Skipped m p t k k
unfolding Skipped
skipped_none m p t k l = passed_begin m _ t k l

-- an empty pattern matches at the end alone
pub skipped_empty : (m : Mode) (p t : List ℕ) (k n : ℕ) → length p ≡ 0 → Passed m (λ j. Unit {0}) t k n → Skipped m p t k n
unfolding Skipped
skipped_empty m [] t k n e h = passed_of m _ t k _ n h (λ j l u. rw (tail_nil, drop-cons t j 0 l) refl)
skipped_empty m (x ∷ p) t k n e h = absurd (omega arith)

-- a pattern that begins with a literal matches where that is
pub skipped-literal : (m : Mode) (p t : List ℕ) (k n : ℕ) → (length p ≡ 0 → ⊥) → is_literal (get_or p 0 0) ≡ true
    → Passed m (λ j. folded m.fold (λ y. eqb y (get_or p 0 0)) (get_or t j 0) ≡ false) t k n → Skipped m p t k n
unfolding Skipped accepts
skipped-literal m [] t k n e l h = absurd (e refl)
skipped-literal m (c ∷ p) t k n e l h =
    passed_of m _ t k _ n h (λ j d f. tail_one m false c p (literal c) 1 (drop j t) (literal_read false c p l) refl ∙ rw (drop-cons t j 0 d, f) refl)

-- a pattern whose first item is no run matches where that accepts the byte
pub skipped-item : (m : Mode) (p t : List ℕ) (k n : ℕ) → (length p ≡ 0 → ⊥) → (get_or p 0 0 ≡ char "*" → ⊥) → Passed m (λ j. taken m p (get_or t j 0) ≡ None) t k n → Skipped m p t k n
unfolding Skipped
skipped-item m p t k n e s h =
    passed_of m _ t k _ n h (λ j d f. mismatch m false p (drop j t) (omega (arith, positive)) (rw length-drop (omega arith)) s (sym f ∙ ap (taken m p) (sym (first j t))))
  where
    positive : 0 < length p
    positive = ⊎_elim (λ l. l) (λ l. absurd (e (omega arith))) (cases_lt 0 (length p))

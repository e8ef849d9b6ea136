-- A byte among others, the first byte and the last one, by place.
use Prim.Native.Nat.{ℕ, zero, suc, ◌+◌, ◌-◌, ◌<◌, ◌≤◌}
use native.Mathlib.Omega.{arith}
use native.Mathlib.Numerals.{add-one}
use mathlib.Core.Path.{◌≡◌, refl, ap, ◌∙◌}
use mathlib.Core.Bool.{true, false, or-true}
use mathlib.Core.List.{List, [], ◌∷◌}
use lib.Dec.{eqb}
use lib.ListN.{length, take, drop, get_or, drop_of_length-le}
use lib.Seq.{drop-cons}
use borrow.Author.Tests.{eq-eqb, ne_eqb}
use Rattle.bytestrings.specs.Bytes.{first_is, last_is, has, without_last}

-- a byte that is found
pub has_at : (b : ℕ) (s : List ℕ) (i : ℕ) → i < length s → get_or s i 0 ≡ b → has b s ≡ true
has_at b [] i h e = absurd (omega arith)
has_at b (x ∷ s) zero h e = rw (eq-eqb x b e)
has_at b (x ∷ s) (suc i) h e = rw (has_at b s i (omega arith) e) (or-true (eqb x b))

-- one place on, without finding it
pub has_next : (b : ℕ) (s : List ℕ) (i : ℕ) → i < length s → (get_or s i 0 ≡ b → ⊥) → has b (drop i s) ≡ has b (drop (i + 1) s)
has_next b s i h n = rw (add-one i, drop-cons s i 0 h, ne_eqb (get_or s i 0) b n)

pub has_none : (b : ℕ) (s : List ℕ) (i : ℕ) → length s ≤ i → has b (drop i s) ≡ false
has_none b s i h = rw (drop_of_length-le s {i = i} h)

-- the first byte
pub begins_at : (b : ℕ) (s : List ℕ) → 0 < length s → first_is b s ≡ eqb (get_or s 0 0) b
begins_at b [] h = absurd (omega arith)
begins_at b (x ∷ s) h = refl

-- the last byte
pub ends_last : (b : ℕ) (s : List ℕ) (n : ℕ) → length s ≡ suc n → last_is b s ≡ eqb (get_or s n 0) b
ends_last b [] n h = absurd (omega arith)
ends_last b (x ∷ []) zero h = refl
ends_last b (x ∷ []) (suc n) h = absurd (omega arith)
ends_last b (x ∷ y ∷ s) zero h = absurd (omega arith)
ends_last b (x ∷ y ∷ s) (suc n) h = ends_last b (y ∷ s) n (omega arith)

pub without_last_lem : (s : List ℕ) (n : ℕ) → length s ≡ suc n → without_last s ≡ take n s
without_last_lem [] n h = absurd (omega arith)
without_last_lem (x ∷ []) zero h = refl
without_last_lem (x ∷ []) (suc n) h = absurd (omega arith)
without_last_lem (x ∷ y ∷ s) zero h = absurd (omega arith)
without_last_lem (x ∷ y ∷ s) (suc n) h = ap {B = List ℕ} (λ l. x ∷ l) (without_last_lem (y ∷ s) n (omega arith))

pub none_before : (b : ℕ) (s : List ℕ) (i : ℕ) → 0 < i → i ≤ length s → (get_or s (i - 1) 0 ≡ b → ⊥) → has b (drop i s) ≡ false → has b (drop (i - 1) s) ≡ false
none_before b s i p l n h = let m : i - 1 + 1 ≡ i = omega arith in has_next b s (i - 1) (omega arith) n ∙ ap (λ (k : ℕ). has b (drop k s)) m ∙ h

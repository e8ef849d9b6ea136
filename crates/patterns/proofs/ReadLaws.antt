-- How the items of a pattern and those of its tail belong together.
use mathlib.Core.Path.{◌≡◌, refl, sym, ap, subst}
use mathlib.Core.Bool.{Bool, true, false, cond}
use mathlib.Core.List.{List, [], ◌∷◌}
use Rattle.std.specs.Prelude.{Option, None, Some}
use Prim.Native.Nat.{ℕ, zero, suc, ◌-◌, ◌≤◌}
use native.Mathlib.Numerals.{sub-one}
use native.Mathlib.Omega.{arith}
use lib.Dec.{eqb}
use lib.ListN.{length, drop, get_or}
use borrow.Author.Tests.{eqb-true}
use Rattle.bytestrings.specs.Text.{char}
use Rattle.classes.specs.Members.{Class, read_class}
use Rattle.classes.proofs.ClassLaws.{class_size_lem}
use Rattle.patterns.specs.Patterns.{Item, literal, any_byte, one_of, run, First, broken, item, stars, read_run, read_escaped, read_bracket, read_item, and_item, items_from}
use Rattle.patterns.specs.inner.Tails.{after_at}

-- the item takes one byte
abbrev pub single : Item → Bool
single (literal c) = true
single any_byte = true
single (one_of c) = true
single (run r) = false

-- the item's last byte is `/`
abbrev pub ends_slash : Item → Bool
ends_slash (literal c) = eqb c (char "/")
ends_slash any_byte = false
ends_slash (one_of c) = false
ends_slash (run r) = false

-- an item is written with some of the bytes that there are, and its last byte is `/` only where it is a literal `/`
abbrev pub Sized : Bool → List ℕ → First → Type 0
Sized after p broken = Unit {0}
Sized after p (item it n) = (1 ≤ n) × (n ≤ length p) × (after_at after p n ≡ ends_slash it)

-- a case for each value of a test, with what it says
pub by_cases : (P : First → Type 0) (b : Bool) (r s : First) → (b ≡ true → P r) → (b ≡ false → P s) → P (cond b r s)
by_cases P true r s f g = f refl
by_cases P false r s f g = g refl

escaped_sized : (after : Bool) (x : ℕ) (p : List ℕ) → Sized after (x ∷ p) (read_escaped p)
unfolding after_at
escaped_sized after x [] = tt
escaped_sized after x (y ∷ p) = (omega arith, omega arith, refl)

other_byte : (x a b : ℕ) → eqb x a ≡ true → eqb a b ≡ false → eqb x b ≡ false
other_byte x a b e d = subst (λ (k : ℕ). eqb k b ≡ false) (sym (eqb-true x a e)) d

-- the byte before the end of a row of stars is a star
pub stars_last : (x : ℕ) (p : List ℕ) (after : Bool) → eqb x (char "*") ≡ true → (1 ≤ stars (x ∷ p)) × (stars (x ∷ p) ≤ length (x ∷ p)) × (after_at after (x ∷ p) (stars (x ∷ p)) ≡ false)
unfolding stars after_at
stars_last x [] after e = rw e (omega arith, omega arith, other_byte x (char "*") (char "/") e refl)
stars_last x (y ∷ p) after e = rw e (go (eqb y (char "*")) refl (stars_last y p false))
  where
    go : (b : Bool) → eqb y (char "*") ≡ b → (eqb y (char "*") ≡ true → (1 ≤ stars (y ∷ p)) × (stars (y ∷ p) ≤ length (y ∷ p)) × (after_at false (y ∷ p) (stars (y ∷ p)) ≡ false))
        → (1 ≤ suc (cond b (suc (stars p)) 0)) × (suc (cond b (suc (stars p)) 0) ≤ suc (suc (length p))) × (eqb (get_or (x ∷ y ∷ p) (cond b (suc (stars p)) 0) 0) (char "/") ≡ false)
    go true q h = let k = rw q at (h q) in (omega arith, omega (arith, k.1), k.2)
    go false q h = (omega arith, omega arith, other_byte x (char "*") (char "/") e refl)

class_sized : (after : Bool) (x : ℕ) (p : List ℕ) (o : Option Class) → read_class p ≡ o → Sized after (x ∷ p) (read_bracket o)
unfolding read_bracket after_at
class_sized after x p None e = tt
class_sized after x p (Some c) e = go c.size (class_size_lem p c e)
  where
    go : (n : ℕ) → (1 ≤ n) × (n ≤ length p) × (get_or p (n - 1) 0 ≡ char "]") → (1 ≤ suc n) × (suc n ≤ suc (length p)) × (after_at after (x ∷ p) (suc n) ≡ false)
    go zero h = absurd (omega (arith, h.0))
    go (suc n) h = (omega arith, omega (arith, h.1), ap (λ (b : ℕ). eqb b (char "/")) (rw sub-one at h.2))

pub item_sized : (after : Bool) (x : ℕ) (p : List ℕ) → Sized after (x ∷ p) (read_item after x p)
unfolding read_item read_run after_at
item_sized after x p =
    by_cases (Sized after (x ∷ p)) (eqb x (char "\\")) _ _ (λ e. escaped_sized after x p)
    (λ e. by_cases (Sized after (x ∷ p)) (eqb x (char "?")) _ _ (λ e. (omega arith, omega arith, other_byte x (char "?") (char "/") e refl))
    (λ e. by_cases (Sized after (x ∷ p)) (eqb x (char "*")) _ _ (λ e. stars_last x p after e)
    (λ e. by_cases (Sized after (x ∷ p)) (eqb x (char "[")) _ _ (λ e. class_sized after x p (read_class p) refl)
    (λ e. (omega arith, omega arith, refl)))))

-- the items after k bytes are those of the tail
pub items-drop : (p : List ℕ) (k : ℕ) (after : Bool) → items_from p k after ≡ items_from (drop k p) 0 (after_at after p k)
unfolding items_from after_at
items-drop [] zero after = refl
items-drop [] (suc k) after = refl
items-drop (x ∷ p) zero after = refl
items-drop (x ∷ p) (suc zero) after = items-drop p zero (eqb x (char "/"))
items-drop (x ∷ p) (suc (suc k)) after = items-drop p (suc k) (eqb x (char "/"))

-- the items of a pattern are its first one and those of its tail
pub items_step : (after : Bool) (x : ℕ) (p : List ℕ) (it : Item) (n : ℕ) → read_item after x p ≡ item it n
    → items_from (x ∷ p) 0 after ≡ and_item it (items_from (drop n (x ∷ p)) 0 (after_at after (x ∷ p) n))
unfolding items_from
items_step after x p it zero e = absurd (omega (arith, (subst (Sized after (x ∷ p)) e (item_sized after x p)).0))
items_step after x p it (suc n) e = rw e (ap (and_item it) (items-drop (x ∷ p) (suc n) after))

-- A name as one number: two names are the same where their numbers are, and the rule of the table that holds the twelve.
use mathlib.Core.Path.{◌≡◌, refl, sym, ap, ◌∙◌}
use mathlib.Core.Bool.{Bool, true, false, ◌&&◌, ◌||◌, false≢true}
use mathlib.Core.List.{List, [], ◌∷◌, map}
use Prim.Native.Nat.{ℕ, zero, suc, ◌+◌, ◌*◌, ◌<◌, ◌≤◌}
use native.Mathlib.Omega.{arith}
use lib.Dec.{eqb, ltb}
use lib.ListN.{length, get_or}
use borrow.Author.Tests.{eq-eqb, ne_eqb, eqb-true, eqb-false, ltb-true}
use Rattle.std.specs.Int.{w64, from_le_bytes}
use Rattle.std.specs.Prelude.{None}
use Rattle.std.specs.List.{position, position_or_len}
use Rattle.std.proofs.lemmas.Bool.{and_parts}
use Rattle.bytestrings.specs.Bytes.{same_bytes}
use Rattle.bytestrings.proofs.SameLaws.{same_length}
use Rattle.classnames.specs.Names.{table, names, which_name}
use Rattle.classnames.specs.inner.PackedNames.{packed, packed_names, may_be_name}
use Rattle.classnames.proofs.TableLaws.{all_at}

-- the table's rule
pub pack_rule : (k : ℕ) → k < 12 → get_or packed_names k 0 ≡ packed (get_or names k [])
unfolding table names packed
pack_rule k h = eqb-true _ _ (all_at 12 (λ i. eqb (get_or packed_names i 0) (packed (get_or names i []))) refl k h)

-- every element is a byte
abbrev pub Bytes : List ℕ → Type 0
Bytes s = (i : ℕ) → get_or s i 0 < 256

packed_pos : (s : List ℕ) → 1 ≤ packed s
unfolding packed
packed_pos [] = omega arith
packed_pos (x ∷ s) = let h = packed_pos s in omega arith

digits : (p q x y : ℕ) → x < 256 → y < 256 → eqb (p * 256 + x) (q * 256 + y) ≡ eqb x y && eqb p q
digits p q x y hx hy = go (eqb x y) refl (eqb p q) refl
  where
    go : (t : Bool) → eqb x y ≡ t → (u : Bool) → eqb p q ≡ u → eqb (p * 256 + x) (q * 256 + y) ≡ t && u
    go true e true f = let a = eqb-true x y e in let b = eqb-true p q f in eq-eqb (p * 256 + x) (q * 256 + y) (omega arith)
    go true e false f = ne_eqb (p * 256 + x) (q * 256 + y) (λ z. eqb-false p q f (omega arith))
    go false e u f = ne_eqb (p * 256 + x) (q * 256 + y) (λ z. eqb-false x y e (omega arith))

-- two byte strings are the same where their numbers are
packed_same : (a b : List ℕ) → Bytes a → Bytes b → eqb (packed a) (packed b) ≡ same_bytes a b
unfolding same_bytes packed
packed_same [] [] ha hb = refl
packed_same [] (y ∷ b) ha hb = let h = packed_pos b in ne_eqb 1 (packed b * 256 + y) (λ z. omega arith)
packed_same (x ∷ a) [] ha hb = let h = packed_pos a in ne_eqb (packed a * 256 + x) 1 (λ z. omega arith)
packed_same (x ∷ a) (y ∷ b) ha hb =
    digits (packed a) (packed b) x y (ha 0) (hb 0) ∙ ap (λ (t : Bool). eqb x y && t) (packed_same a b (λ i. ha (suc i)) (λ i. hb (suc i)))

abbrev small : List ℕ → Bool
small [] = true
small (x ∷ s) = ltb x 256 && small s

abbrev all_small : List (List ℕ) → Bool
all_small [] = true
all_small (s ∷ ss) = (small s && may_be_name s) && all_small ss

small_bytes : (s : List ℕ) → small s ≡ true → Bytes s
small_bytes [] e i = omega arith
small_bytes (x ∷ s) e zero = ltb-true x 256 (and_parts (ltb x 256) (small s) e).0
small_bytes (x ∷ s) e (suc i) = small_bytes s (and_parts (ltb x 256) (small s) e).1 i

module _ (name : List ℕ) where
  place_packed : (ss : List (List ℕ)) → all_small ss ≡ true → Bytes name
      → position_or_len (λ (n : ℕ). eqb n (packed name)) (map packed ss) ≡ position_or_len (λ (s : List ℕ). same_bytes s name) ss
  place_packed [] e b = refl
  place_packed (s ∷ ss) e b =
      let both = and_parts (small s && may_be_name s) (all_small ss) e in
      rw (packed_same s name (small_bytes s (and_parts (small s) (may_be_name s) both.0).0) b, place_packed ss both.1 b) refl

  none_of : (ss : List (List ℕ)) → all_small ss ≡ true → may_be_name name ≡ false → position_or_len (λ (s : List ℕ). same_bytes s name) ss ≡ length ss
  unfolding may_be_name
  none_of [] e f = refl
  none_of (s ∷ ss) e f =
      let both = and_parts (small s && may_be_name s) (all_small ss) e in
      let k = (and_parts (small s) (may_be_name s) both.0).1 in
      let rest = none_of ss both.1 f in
      rw (same_length s name (λ z. false≢true (sym f ∙ ap (λ (n : ℕ). eqb n 5 || eqb n 6) (sym z) ∙ k))) (omega arith)

  -- a name is where its number is
  pub which_packed : (number : ℕ) → number ≡ packed name → Bytes name → position (λ (n : ℕ). eqb n number) packed_names ≡ which_name name
  unfolding table names packed which_name may_be_name
  which_packed number e b = rw (e, place_packed names refl b) refl

  -- what has not five or six bytes is no name
  pub which_none : may_be_name name ≡ false → None ≡ which_name name
  unfolding table names which_name may_be_name
  which_none f = rw (none_of names refl f) refl

pub not_name : (s : List ℕ) → (length s ≡ 5 → ⊥) → (length s ≡ 6 → ⊥) → may_be_name s ≡ false
unfolding may_be_name
not_name s f g = rw (ne_eqb (length s) 5 f, ne_eqb (length s) 6 g) refl

-- five and six bytes, written out
pub five_packed : (s : List ℕ) (n : ℕ) → 5 ≤ length s → length s < 6
    → n ≡ from_le_bytes w64 (get_or s 0 0 ∷ get_or s 1 0 ∷ get_or s 2 0 ∷ get_or s 3 0 ∷ get_or s 4 0 ∷ 1 ∷ 0 ∷ 0 ∷ []) → n ≡ packed s
unfolding packed
five_packed [] n h k e = absurd (omega arith)
five_packed (a ∷ []) n h k e = absurd (omega arith)
five_packed (a ∷ b ∷ []) n h k e = absurd (omega arith)
five_packed (a ∷ b ∷ c ∷ []) n h k e = absurd (omega arith)
five_packed (a ∷ b ∷ c ∷ d ∷ []) n h k e = absurd (omega arith)
five_packed (a ∷ b ∷ c ∷ d ∷ f ∷ []) n h k e = omega arith
five_packed (a ∷ b ∷ c ∷ d ∷ f ∷ g ∷ s) n h k e = absurd (omega arith)

pub six_packed : (s : List ℕ) (n : ℕ) → 6 ≤ length s → length s < 7
    → n ≡ from_le_bytes w64 (get_or s 0 0 ∷ get_or s 1 0 ∷ get_or s 2 0 ∷ get_or s 3 0 ∷ get_or s 4 0 ∷ get_or s 5 0 ∷ 1 ∷ 0 ∷ []) → n ≡ packed s
unfolding packed
six_packed [] n h k e = absurd (omega arith)
six_packed (a ∷ []) n h k e = absurd (omega arith)
six_packed (a ∷ b ∷ []) n h k e = absurd (omega arith)
six_packed (a ∷ b ∷ c ∷ []) n h k e = absurd (omega arith)
six_packed (a ∷ b ∷ c ∷ d ∷ []) n h k e = absurd (omega arith)
six_packed (a ∷ b ∷ c ∷ d ∷ f ∷ []) n h k e = absurd (omega arith)
six_packed (a ∷ b ∷ c ∷ d ∷ f ∷ g ∷ []) n h k e = omega arith
six_packed (a ∷ b ∷ c ∷ d ∷ f ∷ g ∷ i ∷ s) n h k e = absurd (omega arith)

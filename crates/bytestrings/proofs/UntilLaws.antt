-- The bytes before the first that has a property, counted from a place on.
use Prim.Native.Nat.{ℕ, suc, ◌+◌, ◌<◌, ◌≤◌}
use native.Mathlib.Omega.{arith}
use mathlib.Core.Path.{◌≡◌, refl, sym, ap, ◌∙◌}
use mathlib.Core.Bool.{Bool, true, false, cond}
use mathlib.Core.List.{List, [], ◌∷◌}
use lib.ListN.{length, drop, get_or, length-drop, drop_of_length-le}
use Rattle.bytestrings.proofs.SliceLaws.{next, from, from-drop}
use Rattle.bytestrings.specs.Bytes.{length_until}
use Rattle.std.specs.Prelude.{Option, Some, None, position}
use Rattle.std.proofs.lemmas.List.Recursion.{is_position_or_len}

module _ (p : ℕ → Bool) where
  -- the byte at this place has it
  pub until_stop : (s : List ℕ) (i : ℕ) → i < length s → p (get_or s i 0) ≡ true → i + length_until p (drop i s) ≡ i
  until_stop s i h e = rw (next s i h, e) (omega arith)

  -- or not: one place on
  pub until_more : (s : List ℕ) (i : ℕ) → i < length s → p (get_or s i 0) ≡ false → i + length_until p (drop i s) ≡ i + 1 + length_until p (drop (i + 1) s)
  until_more s i h e = rw (next s i h, e) (omega arith)

  pub until_past : (s : List ℕ) (i : ℕ) → length s ≤ i → i + length_until p (drop i s) ≡ i
  until_past s i h = rw (drop_of_length-le s {i = i} h) (omega arith)

  pub until_fits : (s : List ℕ) → length_until p s ≤ length s
  until_fits [] = omega arith
  until_fits (x ∷ s) = go (p x) (until_fits s)
    where
      go : (b : Bool) → length_until p s ≤ length s → cond b 0 (suc (length_until p s)) ≤ suc (length s)
      go true h = omega arith
      go false h = omega arith

  -- the place that is found lies within the bytes
  pub until_within : (s : List ℕ) (i r : ℕ) → i ≤ length s → r ≡ i + length_until p (drop i s) → (i ≤ r) × (r ≤ length s)
  until_within s i r h e = (omega (arith, e), omega (arith, e, until_fits (drop i s), length-drop i s))

  until_cons : (x : ℕ) (s : List ℕ) → length_until p (x ∷ s) ≡ cond (p x) 0 (1 + length_until p s)
  until_cons x s = ap (cond (p x) 0) (omega arith)

  -- what `position` gives of the bytes
  pub until_position : (s : List ℕ) (n : ℕ) → position p s ≡ Some n → length_until p s ≡ n
  until_position s n h = let e = is_position_or_len (length_until p) p refl until_cons s in grind (arith, e, h)

  pub until_no_position : (s : List ℕ) → position p s ≡ None → length_until p s ≡ length s
  until_no_position s h = let e = is_position_or_len (length_until p) p refl until_cons s in grind (arith, e, h, until_fits s)

  -- the same of the slice `&s[at..]`, by what a search in it gave
  pub place_found : (s : List ℕ) (at n : ℕ) (r : Option ℕ) → r ≡ position p (from at s) → r ≡ Some n → at + n ≡ at + length_until p (drop at s)
  place_found s at n r d e = omega (arith, until_position (drop at s) n (ap (position p) (sym (from-drop at s)) ∙ sym d ∙ e))

  pub place_none : (s : List ℕ) (at : ℕ) (r : Option ℕ) → at ≤ length s → r ≡ position p (from at s) → r ≡ None → length s ≡ at + length_until p (drop at s)
  place_none s at r l d e = omega (arith, until_no_position (drop at s) (ap (position p) (sym (from-drop at s)) ∙ sym d ∙ e), length-drop at s)

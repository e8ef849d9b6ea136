-- Where a `[:` begins a plain member, each later one before the same `]` does too.
use mathlib.Core.Path.{◌≡◌, refl, sym, ap, ◌∙◌}
use mathlib.Core.Bool.{Bool, true, false, cond}
use mathlib.Core.List.{List, [], ◌∷◌}
use Prim.Native.Nat.{ℕ, zero, suc, ◌+◌, ◌-◌, ◌≤◌, ◌<◌}
use native.Mathlib.Numerals.{add-one, add-two}
use native.Mathlib.Omega.{arith}
use lib.Dec.{eqb}
use lib.ListN.{length, get_or, drop, length-drop}
use lib.Seq.{drop-cons, drop-drop, get_or-drop}
use borrow.Author.Tests.{eqb-true, eqb-false}
use Rattle.bytestrings.specs.Text.{char}
use Rattle.bytestrings.proofs.SliceLaws.{from, from-drop}
use Rattle.classes.proofs.MemberLaws.{name_empty, name-plain}
use Rattle.classes.specs.Members.{byte, member, until_close, name_at, bracket_at, next_member}
use Rattle.classes.specs.inner.Scan.{PlainTo}

close_step : (t : Bool) (d u v : ℕ) → (d ≤ u → v ≡ u - d) → suc d ≤ cond t 0 (suc u) → v ≡ cond t 0 (suc u) - suc d
close_step true d u v f h = absurd (omega arith)
close_step false d u v f h = let e = f (omega arith) in omega arith

-- the next `]` is d bytes nearer after d bytes before it
pub close-drop : (d : ℕ) (q : List ℕ) → d ≤ until_close q → until_close (drop d q) ≡ until_close q - d
unfolding until_close
close-drop zero q h = omega arith
close-drop (suc d) [] h = absurd (omega arith)
close-drop (suc d) (y ∷ q) h = close_step (eqb y (char "]")) d (until_close q) _ (close-drop d q) h

-- q stands after a `[:`, with n bytes before the next `]`
module _ (q : List ℕ) (n : ℕ) (e : n ≡ until_close q) (l : n < length q) where
  module _ (no : 1 ≤ n → get_or q (n - 1) 0 ≡ char ":" → ⊥) where
    -- no name stands there, and none d bytes later
    plain-name : (d : ℕ) → d ≤ n → name_at (drop d q) ≡ member (byte (char "[")) 1
    plain-name d h = sym (go (eqb (n - d) 0) refl)
      where
        near : n - d ≡ until_close (drop d q)
        near = let c = close-drop d q (omega arith) in omega arith

        fits : n - d < length (drop d q)
        fits = omega (arith, length-drop d q)

        go : (t : Bool) → eqb (n - d) 0 ≡ t → member (byte (char "[")) 1 ≡ name_at (drop d q)
        go true z = name_empty (drop d q) (n - d) near fits (eqb-true _ _ z)
        go false z =
            let f = eqb-false (n - d) 0 z in
            let k : d + (n - d - 1) ≡ n - 1 = omega arith in
            name-plain (drop d q) (n - d) near fits f (λ c. no (omega arith) (ap (λ (j : ℕ). get_or q j 0) (sym k) ∙ sym (get_or-drop d q (n - d - 1) 0) ∙ c))

    plain-places : PlainTo q 0 (n + 1)
    unfolding PlainTo
    plain-places j a b = plain-name j (omega arith)

  pub plain_empty : n ≡ 0 → (member (byte (char "[")) 1 ≡ name_at q) × PlainTo q 0 (n + 1)
  plain_empty z = (name_empty q n e l z, plain-places (λ h. absurd (omega arith)))

  pub plain_other : (n ≡ 0 → ⊥) → (get_or q (n - 1) 0 ≡ char ":" → ⊥) → (member (byte (char "[")) 1 ≡ name_at q) × PlainTo q 0 (n + 1)
  plain_other z d = (name-plain q n e l z d, plain-places (λ h. d))

-- where there are no places, nothing need be known
pub plain_none : (q : List ℕ) (i p : ℕ) → p ≤ i → PlainTo q i p
unfolding PlainTo
plain_none q i p h j a b = absurd (omega arith)

-- what is known of some places is known of fewer
pub plain_less : (q : List ℕ) (i k p m : ℕ) → i ≤ k → m ≤ p → PlainTo q i p → PlainTo q k m
unfolding PlainTo
plain_less q i k p m g h s j a b = s j (omega arith) (omega arith)

-- the places of a part are those of the whole, d bytes on
pub plain_part : (q : List ℕ) (d i p : ℕ) → PlainTo (from d q) i p → PlainTo q (d + i) (d + p)
unfolding PlainTo
plain_part q d i p s j a b =
    let k : d + (j - d) ≡ j = omega arith in
    let f : drop (j - d) (from d q) ≡ drop j q = ap (drop (j - d)) (from-drop d q) ∙ drop-drop (j - d) d q ∙ ap (λ (m : ℕ). drop m q) k in
    ap name_at (sym f) ∙ s (j - d) (omega arith) (omega arith)

-- a `[:` that begins a plain member has bytes after it
name-after : (q : List ℕ) → name_at q ≡ member (byte (char "[")) 1 → 1 ≤ length q
unfolding name_at until_close
name-after [] e = let z : ◌≡◌ {A = ℕ} 0 1 = cc in absurd (omega arith)
name-after (x ∷ q) e = omega arith

-- the places that are known stand before the end
pub plain-within : (q : List ℕ) (i p : ℕ) → PlainTo q i p → i < p → p ≤ length q
unfolding PlainTo
plain-within q i p s h = let f = name-after (drop (p - 1) q) (s (p - 1) (omega arith) (omega arith)) in omega (arith, length-drop (p - 1) q)

pub next_name : (first : Bool) (q : List ℕ) → next_member first (char "[" ∷ char ":" ∷ q) ≡ name_at q
unfolding next_member bracket_at
next_name first q = refl

-- a `[:` at the i-th byte, which ends at a place that is known
pub plain_known : (q : List ℕ) (i p : ℕ) (first : Bool) → PlainTo q (i + 2) (p + 1) → i + 2 ≤ p → get_or q i 0 ≡ char "[" → get_or q (i + 1) 0 ≡ char ":"
    → member (byte (char "[")) 1 ≡ next_member first (drop i q)
unfolding PlainTo
plain_known q i p first s h o c =
    let w = plain-within q (i + 2) (p + 1) s (omega arith) in
    let l : suc i < length q = omega arith in
    let m : i < length q = omega arith in
    let k : get_or q (suc i) 0 ≡ (char ":") = rw add-one at c in
    let f : name_at (drop (suc (suc i)) q) ≡ member (byte (char "[")) 1 = rw add-two at (s (i + 2) (omega arith) (omega arith)) in
    rw (drop-cons q i 0, drop-cons q (suc i) 0, o, k, next_name) (sym f)

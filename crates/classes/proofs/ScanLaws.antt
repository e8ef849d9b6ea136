-- A class's members one after the other: what was found so far, joined with what the rest gives.
use mathlib.Core.Path.{◌≡◌, refl, sym, ap, ap₂, subst, ◌∙◌}
use mathlib.Core.Bool.{Bool, true, false, ◌||◌, or-true, or-false}
use mathlib.Core.List.{List, [], ◌∷◌}
use Rattle.std.specs.Prelude.{Option, None, Some}
use Prim.Native.Nat.{ℕ, zero, suc, ◌+◌, ◌-◌, ◌≤◌, ◌<◌}
use native.Mathlib.Nat.{zero-add, suc-add, add_assoc}
use native.Mathlib.Omega.{arith}
use lib.Dec.{eqb}
use lib.ListN.{length, drop, length-drop, drop_of_length-le}
use lib.Seq.{drop-nil, drop-drop}
use borrow.Author.Tests.{ne_eqb}
use Rattle.classes.proofs.PlainLaws.{plain_less}
use Rattle.classes.proofs.SizeLaws.{Within, next_within}
use Rattle.classes.specs.Members.{Member, lists, any_lists, Step, close, broken, member, next_member, Members, longer, and_member, members_after, members}
use Rattle.classes.specs.inner.Scan.{scanned, PlainTo}
use Rattle.classes.specs.declared.class.Tested.{Tested}

-- n bytes more, before members
abbrev pub longer_by : ℕ → Option Members → Option Members
longer_by n None = None
longer_by n (Some r) = Some (record { list = r.list; size = n + r.size })

pub longer_zero : (o : Option Members) → o ≡ longer_by 0 o
longer_zero None = refl
longer_zero (Some r) = rw (zero-add r.size) refl

longer_suc : (n : ℕ) (o : Option Members) → longer (longer_by n o) ≡ longer_by (suc n) o
longer_suc n None = refl
longer_suc n (Some r) = rw (suc-add n r.size) refl

-- members after k bytes are the members of what follows them
members-drop : (q : List ℕ) (k : ℕ) (first : Bool) → members q k first ≡ longer_by k (members (drop k q) 0 first)
unfolding members
members-drop [] k first = rw (drop-nil {A = ℕ} k) refl
members-drop (x ∷ q) zero first = longer_zero _
members-drop (x ∷ q) (suc k) first = ap longer (members-drop q k first) ∙ longer_suc k (members (drop k q) 0 first)

-- the member b of n bytes, before members
unfoldable pub with_member : Member → ℕ → Option Members → Option Members
with_member b n None = None
with_member b n (Some r) = Some (record { list = b ∷ r.list; size = n + r.size })

with_longer : (b : Member) (n : ℕ) (o : Option Members) → and_member b (longer_by n o) ≡ with_member b (suc n) o
unfolding with_member
with_longer b n None = refl
with_longer b n (Some r) = rw (suc-add n r.size) refl

pub members-member : (q : List ℕ) (first : Bool) (b : Member) (n : ℕ) → next_member first q ≡ member b n → 1 ≤ n → members q 0 first ≡ with_member b n (members (drop n q) 0 false)
unfolding members next_member
members-member [] first b n e h = let z : ◌≡◌ {A = ℕ} 0 1 = cc in absurd (omega arith)
members-member (x ∷ q) first b zero e h = absurd (omega arith)
members-member (x ∷ q) first b (suc n) e h = ap (λ (s : Step). members_after s (λ n. members q n false)) e ∙ ap (and_member b) (members-drop q n false) ∙ with_longer b n (members (drop n q) 0 false)

members-close : (q : List ℕ) (first : Bool) → next_member first q ≡ close → members q 0 first ≡ Some (record { list = []; size = 1 })
unfolding members next_member
members-close [] first e = let z : ◌≡◌ {A = ℕ} 0 1 = cc in absurd (omega arith)
members-close (x ∷ q) first e = ap (λ (s : Step). members_after s (λ n. members q n false)) e

pub members-broken : (q : List ℕ) (first : Bool) → next_member first q ≡ broken → members q 0 first ≡ None
unfolding members
members-broken [] first e = refl
members-broken (x ∷ q) first e = ap (λ (s : Step). members_after s (λ n. members q n false)) e

-- an answer of the test
abbrev pub read : Bool → ℕ → Option Tested
read hit n = Some (record { accepts = hit; size = n })

-- what was found in the first i bytes, joined with what the rest gives
abbrev pub joined : Bool → ℕ → Option Tested → Option Tested
joined hit i None = None
joined hit i (Some t) = read (hit || t.accepts) (i + t.size)

or_swap : (h a b c d : Bool) → h || ((a || c) || (b || d)) ≡ (h || (a || b)) || (c || d)
or_swap true a b c d = refl
or_swap false true b c d = refl
or_swap false false true c d = or-true c
or_swap false false false c d = refl

joined_with : (hit : Bool) (i x y : ℕ) (b : Member) (n : ℕ) (o : Option Members)
    → joined hit i (scanned x y (with_member b n o)) ≡ joined (hit || (lists b x || lists b y)) (i + n) (scanned x y o)
unfolding scanned with_member
joined_with hit i x y b n None = refl
joined_with hit i x y b n (Some r) =
    ap₂ read (or_swap hit (lists b x) (lists b y) (any_lists r.list x) (any_lists r.list y)) (sym (add_assoc i n r.size))

-- the members from the i-th byte on are left
unfoldable pub Left : List ℕ → ℕ → ℕ → ℕ → Bool → Type 0
Left q x y i hit = scanned x y (members q 0 true) ≡ joined hit i (scanned x y (members (drop i q) 0 (eqb i 0)))

pub left_all : (q : List ℕ) (x y : ℕ) → Left q x y 0 false
unfolding Left
left_all q x y = go (scanned x y (members q 0 true))
  where
    go : (r : Option Tested) → r ≡ joined false 0 r
    go None = refl
    go (Some t) = rw (zero-add t.size) refl

pub left_none : (q : List ℕ) (x y i : ℕ) (hit : Bool) → length q ≤ i → Left q x y i hit → None ≡ scanned x y (members q 0 true)
unfolding members scanned Left
left_none q x y i hit h s = sym (s ∙ (rw (drop_of_length-le q h) refl))

-- whether something was found, after the member b
unfoldable pub found : Bool → Member → ℕ → ℕ → Bool
found hit b x y = hit || (lists b x || lists b y)

module _ (hit : Bool) (b : Member) (x y : ℕ) where
  pub found_before : hit ≡ true → hit ≡ found hit b x y
  unfolding found
  found_before h = rw h refl

  pub found_now : hit ≡ false → (more : Bool) → more ≡ lists b x || lists b y → more ≡ found hit b x y
  unfolding found
  found_now h more e = rw h e

module _ (q : List ℕ) (x y i : ℕ) (hit : Bool) (r : Step) (e : r ≡ next_member (eqb i 0) (drop i q)) (s : Left q x y i hit) where
  pub left_close : r ≡ close → read hit (i + 1) ≡ scanned x y (members q 0 true)
  unfolding scanned Left
  left_close c = sym (s ∙ ap (λ (o : Option Members). joined hit i (scanned x y o)) (members-close (drop i q) (eqb i 0) (sym e ∙ c)) ∙ ap (λ (h : Bool). read h (i + 1)) (or-false hit))

  pub left_broken : r ≡ broken → None ≡ scanned x y (members q 0 true)
  unfolding scanned Left
  left_broken c = sym (s ∙ ap (λ (o : Option Members). joined hit i (scanned x y o)) (members-broken (drop i q) (eqb i 0) (sym e ∙ c)))

  module _ (b : Member) (n : ℕ) (c : r ≡ member b n) where
    pub left_size : (1 ≤ n) × (n ≤ length q - i)
    left_size =
        let h : Within (drop i q) (member b n) = subst (Within (drop i q)) (sym e ∙ c) (next_within (eqb i 0) (drop i q)) in
        simp (length-drop) at h

    left_more : (more : Bool) → more ≡ found hit b x y → Left q x y (i + n) more
    unfolding Left found
    left_more more m =
        let f : eqb (i + n) 0 ≡ false = ne_eqb (i + n) 0 (λ z. let h = left_size in omega arith) in
        rw (m, f, ← drop-drop n i q)
        (s ∙ ap (λ (o : Option Members). joined hit i (scanned x y o)) (members-member (drop i q) (eqb i 0) b n (sym e ∙ c) left_size.0)
        ∙ joined_with hit i x y b n (members (drop n (drop i q)) 0 false))

    -- one turn of the loop: the member is passed, and what is known of plain members stays known
    pub left_turn : (p : ℕ) → i < length q → PlainTo q (i + 2) p → (more : Bool) → more ≡ found hit b x y
        → (i + n ≤ length q) × Left q x y (i + n) more × PlainTo q (i + n + 2) p
    left_turn p l k more m = let h = left_size in (omega arith, left_more more m, plain_less q (i + 2) (i + n + 2) p p (omega arith) (omega arith) k)

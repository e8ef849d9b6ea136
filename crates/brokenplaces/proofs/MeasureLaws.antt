-- A class's members one after the other, where only their sizes are read.
use mathlib.Core.Path.{◌≡◌, refl, sym, ap, subst, ◌∙◌}
use mathlib.Core.Bool.{Bool, true, false, cond, and-false, false≢true}
use mathlib.Core.List.{List, [], ◌∷◌}
use Rattle.std.proofs.lemmas.Bool.{and_parts}
use Rattle.std.specs.Prelude.{Option, None, Some}
use Prim.Native.Nat.{ℕ, suc, ◌+◌, ◌≤◌, ◌<◌}
use native.Mathlib.Omega.{arith}
use lib.Dec.{eqb}
use lib.ListN.{length, get_or, drop, length-drop, drop_of_length-le}
use lib.Seq.{drop-cons, drop-drop}
use borrow.Author.Tests.{ne_eqb, eqb-true}
use Rattle.bytestrings.specs.Text.{char}
use Rattle.bytestrings.proofs.SliceLaws.{from, from-drop}
use Rattle.classes.proofs.MemberLaws.{NotClose, single_short, single-plain, single-close, single-range, single_open, single_escaped}
use Rattle.classes.proofs.PlainLaws.{close-drop, next_name}
use Rattle.classes.proofs.SizeLaws.{Within, next_within, Ended, members-ended}
use Rattle.classes.proofs.ScanLaws.{longer_by, longer_zero, with_member, members-member, members-broken}
use Rattle.classes.proofs.ClassLaws.{start_of, start-within, read_start}
use Rattle.classes.specs.Members.{Member, Step, close, broken, member, single, until_close, name_at, bracket_at, next_member, Members, members, Class, class_of, not_sign, read_class}
use Rattle.brokenplaces.specs.inner.ClassSizes.{Sized, members_size, starts_name, NextClose}
use Rattle.brokenplaces.specs.Sizes.{class_size}

-- The single member of n bytes, or the range that it begins, by the tests that the code makes.

module _ (b n : ℕ) where
  pub sized_short : (q : List ℕ) → length q < 2 → Sized (Some n) (single b n q)
  sized_short q h = subst (Sized _) (single_short b n q h) refl

  pub sized_plain : (q : List ℕ) → 2 ≤ length q → (get_or q 0 0 ≡ char "-" → ⊥) → Sized (Some n) (single b n q)
  sized_plain q h d = subst (Sized _) (single-plain b n q h d) refl

  pub sized_close : (q : List ℕ) → 2 ≤ length q → get_or q 0 0 ≡ char "-" → get_or q 1 0 ≡ char "]" → Sized (Some n) (single b n q)
  sized_close q h d e = subst (Sized _) (single-close b n q h d e) refl

  pub sized_range : (q : List ℕ) → 2 ≤ length q → get_or q 0 0 ≡ char "-" → (get_or q 1 0 ≡ char "]" → ⊥) → (get_or q 1 0 ≡ char "\\" → ⊥) → Sized (Some (n + 2)) (single b n q)
  sized_range q h d e f = subst (Sized _) (single-range b n q h d e f) refl

  pub sized_open : (q : List ℕ) → 2 ≤ length q → get_or q 0 0 ≡ char "-" → get_or q 1 0 ≡ char "\\" → length q < 3 → Sized None (single b n q)
  sized_open q h d e s = subst (Sized _) (single_open b n q h d e s) refl

  pub sized_escaped : (q : List ℕ) → get_or q 0 0 ≡ char "-" → get_or q 1 0 ≡ char "\\" → 3 ≤ length q → Sized (Some (n + 3)) (single b n q)
  sized_escaped q d e s = subst (Sized _) (single_escaped b n q d e s) refl

-- What stands next, with `[:` and without.

-- a `[:` begins what `name_at` reads
starts-name : (first : Bool) (q : List ℕ) → starts_name q ≡ true → (2 ≤ length q) × (next_member first q ≡ name_at (drop 2 q))
starts-name first [] e = absurd (false≢true e)
starts-name first (x ∷ []) e = absurd (false≢true (and_parts (eqb x (char "[")) false e).1)
starts-name first (x ∷ y ∷ q) e =
    let b = and_parts (eqb x (char "[")) (eqb y (char ":")) e in (omega arith, rw (eqb-true x (char "[") b.0, eqb-true y (char ":") b.1) (next_name first q))

bracket_plain : (q : List ℕ) → eqb (get_or q 0 0) (char ":") ≡ false → single (char "[") 1 q ≡ bracket_at q
unfolding bracket_at single
bracket_plain [] e = refl
bracket_plain (y ∷ q) e = rw e refl

-- with no `[:` and no `\`, a single member is next, whichever byte it is
pub plain-single : (q : List ℕ) (r : Option ℕ) → starts_name q ≡ false → 0 < length q → (get_or q 0 0 ≡ char "\\" → ⊥)
    → ((b : ℕ) → Sized r (single b 1 (from 1 q))) → Sized r (next_member true q)
unfolding next_member
plain-single [] r e h d s = absurd (omega arith)
plain-single (x ∷ q) r e h d s = rw (and-false (eqb x (char "]")), ne_eqb x (char "\\") d) (go (eqb x (char "[")) refl)
  where
    one : (b : ℕ) → Sized r (single b 1 q)
    one b = subst (λ (p : List ℕ). Sized r (single b 1 p)) (from-drop 1 (x ∷ q)) (s b)

    go : (t : Bool) → eqb x (char "[") ≡ t → Sized r (cond t (bracket_at q) (single x 1 q))
    go true z = subst (Sized r) (bracket_plain q (rw z at e)) (one (char "["))
    go false z = one x

-- At the i-th byte: what a `[:` begins, and what any other byte begins that is not the closing `]`.

module _ (q : List ℕ) (i : ℕ) where
  pub name_next : starts_name (from i q) ≡ true → (i + 2 ≤ length q) × (name_at (from (i + 2) q) ≡ next_member (eqb i 0) (drop i q))
  name_next e =
      let h = starts-name (eqb i 0) (drop i q) (rw (from-drop i q) at e) in
      (omega (arith, length-drop i q), rw (from-drop (i + 2) q, ← drop-drop 2 i q) (sym h.1))

  plain_next : i < length q → NotClose (eqb i 0) (get_or q i 0) → next_member true (from i q) ≡ next_member (eqb i 0) (drop i q)
  unfolding next_member NotClose
  plain_next h t = rw (from-drop i q, drop-cons q i 0, t, and-false (eqb (get_or q i 0) (char "]"))) refl

-- The next `]` that is kept.

close-within : (q : List ℕ) → until_close q ≤ length q
unfolding until_close
close-within [] = omega arith
close-within (y ∷ q) = go (eqb y (char "]")) (close-within q)
  where
    go : (t : Bool) → until_close q ≤ length q → cond t 0 (suc (until_close q)) ≤ suc (length q)
    go true h = omega arith
    go false h = omega arith

-- the bytes before it from the place i on, counted in the part `&q[i..]`
pub close-from : (q : List ℕ) (i n : ℕ) → i ≤ length q → n ≡ until_close (from i q) → (i + n ≤ length q) × (n ≡ until_close (drop i q))
close-from q i n h e =
    let f : n ≡ until_close (drop i q) = rw (from-drop i q) at e in (let g = close-within (drop i q) in omega (arith, length-drop i q), f)

-- it stays the next one while bytes before it are passed
close-kept : (q : List ℕ) (i n k : ℕ) → NextClose q (i + 2) k → NextClose q (i + n + 2) k
close-kept q i n k s h =
    let e = s (omega arith) in
    let f = close-drop n (drop (i + 2) q) (omega arith) in
    let g : i + 2 + n ≡ i + n + 2 = omega arith in
    let d : until_close (drop (i + n + 2) q) ≡ until_close (drop n (drop (i + 2) q)) = rw (drop-drop n (i + 2) q, g) refl in
    omega arith

-- The members one after the other.

-- those from the i-th byte on are left
unfoldable pub Left : List ℕ → ℕ → Type 0
Left q i = members_size (members q 0 true) ≡ members_size (longer_by i (members (drop i q) 0 (eqb i 0)))

-- and the place k of the next `]` is kept
abbrev pub ReadTo : List ℕ → ℕ → ℕ → Type 0
ReadTo q i k = (i ≤ length q) × Left q i × NextClose q (i + 2) k

pub left_all : (q : List ℕ) → Left q 0
unfolding Left
left_all q = ap members_size (longer_zero (members q 0 true))

pub left_none : (q : List ℕ) (i : ℕ) → length q ≤ i → Left q i → None ≡ members_size (members q 0 true)
unfolding Left members
left_none q i h s = sym (s ∙ rw (drop_of_length-le q h) refl)

pub left_close : (q : List ℕ) (i : ℕ) → i < length q → get_or q i 0 ≡ char "]" → (i ≡ 0 → ⊥) → Left q i → Some (i + 1) ≡ members_size (members q 0 true)
unfolding Left members next_member
left_close q i h e z s = sym (s ∙ rw (drop-cons q i 0, e, ne_eqb i 0 z) refl)

with_size : (b : Member) (i n : ℕ) (o : Option Members) → members_size (longer_by i (with_member b n o)) ≡ members_size (longer_by (i + n) o)
unfolding with_member
with_size b i n None = refl
with_size b i n (Some r) = ap Some (omega arith)

-- one turn of the loop, with the code's answer for what stands next: the class is broken, or the member of n bytes fits and is passed
abbrev pub Turn : List ℕ → ℕ → ℕ → Option ℕ → Type 0
Turn q i k None = None ≡ members_size (members q 0 true)
Turn q i k (Some n) = (1 ≤ n) × ReadTo q (i + n) k

module _ (q : List ℕ) (i k : ℕ) (r : Option ℕ) (h : i < length q) (l : Left q i) (c : NextClose q (i + 2) k) where
  left_step : (s : Step) → next_member (eqb i 0) (drop i q) ≡ s → Sized r s → Within (drop i q) s → Turn q i k r
  unfolding Left
  left_step close e w f = absurd w
  left_step broken e w f = rw w (sym (l ∙ ap (λ (o : Option Members). members_size (longer_by i o)) (members-broken (drop i q) (eqb i 0) e)))
  left_step (member b n) e w f =
      let g = members-member (drop i q) (eqb i 0) b n e f.0 in
      let t : Left q (i + n) =
      rw (ne_eqb (i + n) 0 (λ y. omega arith), ← drop-drop n i q)
      (l ∙ ap (λ (o : Option Members). members_size (longer_by i o)) g ∙ with_size b i n (members (drop n (drop i q)) 0 false)) in
      rw w (omega arith, (omega (arith, length-drop i q), t, close-kept q i n k c))

  pub name_turn : starts_name (from i q) ≡ true → Sized r (name_at (from (i + 2) q)) → Turn q i k r
  name_turn t s = left_step _ refl (subst (Sized r) (name_next q i t).1 s) (next_within (eqb i 0) (drop i q))

  pub plain_turn : NotClose (eqb i 0) (get_or q i 0) → Sized r (next_member true (from i q)) → Turn q i k r
  plain_turn t s = left_step _ refl (subst (Sized r) (plain_next q i h t) s) (next_within (eqb i 0) (drop i q))

-- A whole class.

-- the code's answer for the members from the place i on: they are broken, or of n bytes and end within q
abbrev pub Measured : List ℕ → ℕ → Option ℕ → Option Class → Type 0
Measured q i None c = None ≡ class_size c
Measured q i (Some n) c = (i + n ≤ length q) × (Some (i + n) ≡ class_size c)

module _ (q : List ℕ) (i : ℕ) (r : Option ℕ) (at : i ≡ start_of q) (s : r ≡ members_size (members (from i q) 0 true)) where
  measured_members : (neg : Bool) (o : Option Members) → Ended (drop i q) o → r ≡ members_size o → Measured q i r (class_of neg i o)
  unfolding class_size
  measured_members neg None h e = rw e refl
  measured_members neg (Some m) h e = rw e (let l = start-within q i at in omega (arith, length-drop i q), refl)

  pub class_measured : Measured q i r (read_class q)
  class_measured =
      rw (read_start q, ← at) (measured_members (not_sign q) (members (drop i q) 0 true) (members-ended (drop i q) 0 true)
      (s ∙ ap (λ (p : List ℕ). members_size (members p 0 true)) (from-drop i q)))

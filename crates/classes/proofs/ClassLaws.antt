-- A whole class: its size, its sign, and the test of a byte against it.
use mathlib.Core.Path.{◌≡◌, refl, sym, ap, ap₂, subst, ◌∙◌}
use mathlib.Core.Bool.{Bool, true, false, cond, not, ◌||◌, beq, or_self}
use mathlib.Core.List.{List, [], ◌∷◌}
use Rattle.std.specs.Prelude.{Option, None, Some}
use Prim.Native.Nat.{ℕ, suc, ◌+◌, ◌-◌, ◌≤◌}
use native.Mathlib.Nat.{zero-add}
use native.Mathlib.Numerals.{one-add}
use native.Mathlib.Omega.{arith}
use lib.Dec.{eqb}
use lib.ListN.{length, get_or, drop, length-drop}
use borrow.Author.Tests.{eq-eqb, ne_eqb}
use Rattle.bytestrings.specs.Text.{char}
use Rattle.bytestrings.proofs.SliceLaws.{from, from-drop}
use Rattle.classes.proofs.SizeLaws.{Ends, Ended, ends_more, members-ended}
use Rattle.bytestrings.specs.Letters.{lower, upper, folded}
use Rattle.classes.specs.Members.{Member, any_lists, class_accepts, Members, members, Class, class_of, not_sign, read_class, tested}
use Rattle.classes.specs.inner.Scan.{scanned}
use Rattle.classes.proofs.ScanLaws.{read}
use Rattle.classes.specs.declared.class.Tested.{Tested}

-- a class that was read ends in a `]`
abbrev Closed : List ℕ → Option Class → Type 0
Closed q None = Unit {0}
Closed q (Some c) = Ends q c.size

plain_closed : (q : List ℕ) (o : Option Members) → Ended q o → Closed q (class_of false 0 o)
plain_closed q None h = tt
plain_closed q (Some r) h = rw (zero-add r.size) h

sign_closed : (x : ℕ) (q : List ℕ) (o : Option Members) → Ended q o → Closed (x ∷ q) (class_of true 1 o)
sign_closed x q None h = tt
sign_closed x q (Some r) h = rw (one-add r.size) (ends_more x q r.size h)

read_closed : (q : List ℕ) → Closed q (read_class q)
unfolding read_class
read_closed [] = plain_closed [] (members [] 0 true) (members-ended [] 0 true)
read_closed (x ∷ q) = go (not_sign (x ∷ q))
  where
    go : (t : Bool) → Closed (x ∷ q) (cond t (class_of true 1 (members q 0 true)) (class_of false 0 (members (x ∷ q) 0 true)))
    go true = sign_closed x q (members q 0 true) (members-ended q 0 true)
    go false = plain_closed (x ∷ q) (members (x ∷ q) 0 true) (members-ended (x ∷ q) 0 true)

-- a class is written with at least one byte after its `[`, with no more than there are, and ends in `]`
pub class_size_lem : (q : List ℕ) (c : Class) → read_class q ≡ Some c → (1 ≤ c.size) × (c.size ≤ length q) × (get_or q (c.size - 1) 0 ≡ char "]")
class_size_lem q c e = subst (Closed q) e (read_closed q)

-- The sign for "not".

pub sign_none : (q : List ℕ) → length q ≡ 0 → false ≡ not_sign q
sign_none [] h = refl
sign_none (x ∷ q) h = absurd (omega arith)

pub sign_first : (q : List ℕ) → (length q ≡ 0 → ⊥) → get_or q 0 0 ≡ char "!" → eqb (get_or q 0 0) (char "!") ≡ not_sign q
sign_first [] h e = absurd (h refl)
sign_first (x ∷ q) h e = rw (eq-eqb x (char "!") e) refl

pub sign_other : (q : List ℕ) → (length q ≡ 0 → ⊥) → (get_or q 0 0 ≡ char "!" → ⊥) → eqb (get_or q 0 0) (char "^") ≡ not_sign q
sign_other [] h d = absurd (h refl)
sign_other (x ∷ q) h d = rw (ne_eqb x (char "!") d) refl

-- Where the members start, after the sign, and the two forms of a byte that is tested.

unfoldable pub start_of : List ℕ → ℕ
start_of q = cond (not_sign q) 1 0

pub start_sign : (q : List ℕ) (neg : Bool) (n : ℕ) → neg ≡ not_sign q → neg ≡ true → n ≡ 1 → n ≡ start_of q
unfolding start_of
start_sign q neg n e t h = rw (sym e ∙ t) h

pub start_plain : (q : List ℕ) (neg : Bool) (n : ℕ) → neg ≡ not_sign q → neg ≡ false → n ≡ 0 → n ≡ start_of q
unfolding start_of
start_plain q neg n e t h = rw (sym e ∙ t) h

start_cases : (t : Bool) (n : ℕ) → 1 ≤ n → cond t 1 0 ≤ n
start_cases true n h = h
start_cases false n h = omega arith

pub start-within : (q : List ℕ) (n : ℕ) → n ≡ start_of q → n ≤ length q
unfolding start_of
start-within [] n e = omega arith
start-within (x ∷ q) n e = let h = start_cases (not_sign (x ∷ q)) (suc (length q)) (omega arith) in omega arith

-- the form f of x, where case is folded
unfoldable pub form : Bool → ℕ → ℕ → ℕ
form fold f x = cond fold f x

pub form-folded : (fold : Bool) (f x z : ℕ) → fold ≡ true → z ≡ f → z ≡ form fold f x
unfolding form
form-folded fold f x z e h = rw e h

pub form-plain : (fold : Bool) (f x z : ℕ) → fold ≡ false → z ≡ x → z ≡ form fold f x
unfolding form
form-plain fold f x z e h = rw e h

-- The test of a byte.

pub read_start : (q : List ℕ) → read_class q ≡ class_of (not_sign q) (start_of q) (members (drop (start_of q) q) 0 true)
unfolding read_class start_of
read_start q = go (not_sign q)
  where
    go : (t : Bool) → cond t (class_of true 1 (members (drop 1 q) 0 true)) (class_of false 0 (members q 0 true)) ≡ class_of t (cond t 1 0) (members (drop (cond t 1 0) q) 0 true)
    go true = refl
    go false = refl

folded_forms : (fold : Bool) (ms : List Member) (x : ℕ)
    → any_lists ms (form fold (lower x) x) || any_lists ms (form fold (upper x) x) ≡ folded fold (any_lists ms) x
unfolding form folded
folded_forms true ms x = refl
folded_forms false ms x = or_self (any_lists ms x)

accepted_hit : (fold neg hit : Bool) (ms : List Member) (x : ℕ) → hit ≡ folded fold (any_lists ms) x → not (beq hit neg) ≡ class_accepts fold neg ms x
unfolding class_accepts
accepted_hit fold false true ms x e = e
accepted_hit fold false false ms x e = e
accepted_hit fold true true ms x e = ap not e
accepted_hit fold true false ms x e = ap not e

module _ (fold neg : Bool) (x k : ℕ) where
  scanned_none : (o : Option Members) → None ≡ scanned (form fold (lower x) x) (form fold (upper x) x) o → None ≡ tested fold x (class_of neg k o)
  unfolding scanned tested
  scanned_none None e = refl
  scanned_none (Some r) e = absurd cc

  scanned_some : (o : Option Members) (t : Tested) → Some t ≡ scanned (form fold (lower x) x) (form fold (upper x) x) o
      → read (not (beq t.accepts neg)) (k + t.size) ≡ tested fold x (class_of neg k o)
  unfolding scanned tested
  scanned_some None t e = absurd cc
  scanned_some (Some r) t e =
      let h : t ≡ record { accepts = any_lists r.list (form fold (lower x) x) || any_lists r.list (form fold (upper x) x); size = r.size } = cc in
      ap₂ read (accepted_hit fold neg t.accepts r.list x (ap (λ (u : Tested). u.accepts) h ∙ folded_forms fold r.list x)) (ap (λ (u : Tested). k + u.size) h)

scanned-size : (q : List ℕ) (y z : ℕ) (o : Option Members) (t : Tested) → Some t ≡ scanned y z o → Ended q o → t.size ≤ length q
unfolding scanned
scanned-size q y z None t e h = absurd cc
scanned-size q y z (Some r) t e h =
    let k : t ≡ record { accepts = any_lists r.list y || any_lists r.list z; size = r.size } = cc in
    let m = ap (λ (u : Tested). u.size) k in omega arith

module _ (q : List ℕ) (start low high : ℕ) (r : Option Tested) (at : start ≡ start_of q) (s : r ≡ scanned low high (members (from start q) 0 true)) where
  scan : r ≡ scanned low high (members (drop start q) 0 true)
  scan = s ∙ ap (λ (p : List ℕ). scanned low high (members p 0 true)) (from-drop start q)

  pub class_fits : (t : Tested) → r ≡ Some t → start + t.size ≤ length q
  class_fits t e =
      let h = scanned-size (drop start q) low high (members (drop start q) 0 true) t (sym e ∙ scan) (members-ended (drop start q) 0 true) in
      let l = start-within q start at in
      omega (arith, length-drop start q)

  module _ (fold : Bool) (x : ℕ) (l : low ≡ form fold (lower x) x) (u : high ≡ form fold (upper x) x) where
    forms : r ≡ scanned (form fold (lower x) x) (form fold (upper x) x) (members (drop (start_of q) q) 0 true)
    forms = rw (← l, ← u, ← at) scan

    pub class_none : r ≡ None → None ≡ tested fold x (read_class q)
    class_none e = rw (read_start q) (scanned_none fold (not_sign q) x (start_of q) (members (drop (start_of q) q) 0 true) (sym e ∙ forms))

    pub class_some : (neg : Bool) (t : Tested) → neg ≡ not_sign q → r ≡ Some t → read (not (beq t.accepts neg)) (start + t.size) ≡ tested fold x (read_class q)
    class_some neg t g e =
        rw (read_start q, at, g) (scanned_some fold (not_sign q) x (start_of q) (members (drop (start_of q) q) 0 true) t (sym e ∙ forms))

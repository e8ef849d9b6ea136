-- How members are read, by the tests that the code makes.
use mathlib.Core.Path.{◌≡◌, refl, ap, ◌∙◌}
use mathlib.Core.Bool.{Bool, true, false, cond, not, ◌&&◌, and-false}
use mathlib.Core.List.{List, [], ◌∷◌}
use Rattle.std.specs.Prelude.{None, Some}
use Prim.Native.Nat.{ℕ, ◌+◌, ◌-◌, ◌<◌, ◌≤◌}
use native.Mathlib.Omega.{arith}
use lib.Dec.{eqb}
use lib.ListN.{length, get_or, take}
use borrow.Author.Tests.{eq-eqb, ne_eqb, le-leb, lt-leb}
use Rattle.bytestrings.proofs.SliceLaws.{from, from-drop}
use Rattle.bytestrings.specs.Text.{char}
use Rattle.classnames.specs.Names.{which_name}
use Rattle.classes.specs.Members.{byte, range, name, Step, close, broken, member, single, until_close, name_at, bracket_at, next_member}

-- The single member b of n bytes, or the range that it begins.

cond_same : (t : Bool) (r : Step) → r ≡ cond t r r
cond_same true r = refl
cond_same false r = refl

module _ (b n : ℕ) where
  pub single_short : (q : List ℕ) → length q < 2 → member (byte b) n ≡ single b n q
  unfolding single
  single_short [] h = refl
  single_short (y ∷ []) h = cond_same (eqb y (char "-")) _
  single_short (y ∷ z ∷ q) h = absurd (omega arith)

  pub single-plain : (q : List ℕ) → 2 ≤ length q → (get_or q 0 0 ≡ char "-" → ⊥) → member (byte b) n ≡ single b n q
  unfolding single
  single-plain [] h d = refl
  single-plain (y ∷ q) h d = rw (ne_eqb y (char "-") d) refl

  pub single-close : (q : List ℕ) → 2 ≤ length q → get_or q 0 0 ≡ char "-" → get_or q 1 0 ≡ char "]" → member (byte b) n ≡ single b n q
  unfolding single
  single-close [] h d e = refl
  single-close (y ∷ []) h d e = cond_same (eqb y (char "-")) _
  single-close (y ∷ z ∷ q) h d e = rw (eq-eqb y (char "-") d, eq-eqb z (char "]") e) refl

  pub single-range : (q : List ℕ) → 2 ≤ length q → get_or q 0 0 ≡ char "-" → (get_or q 1 0 ≡ char "]" → ⊥) → (get_or q 1 0 ≡ char "\\" → ⊥)
      → member (range b (get_or q 1 0)) (n + 2) ≡ single b n q
  unfolding single
  single-range [] h d e f = absurd (omega arith)
  single-range (y ∷ []) h d e f = absurd (omega arith)
  single-range (y ∷ z ∷ q) h d e f = rw (eq-eqb y (char "-") d, ne_eqb z (char "]") e, ne_eqb z (char "\\") f) refl

  pub single_open : (q : List ℕ) → 2 ≤ length q → get_or q 0 0 ≡ char "-" → get_or q 1 0 ≡ char "\\" → length q < 3 → broken ≡ single b n q
  unfolding single
  single_open [] h d e s = absurd (omega arith)
  single_open (y ∷ []) h d e s = absurd (omega arith)
  single_open (y ∷ z ∷ []) h d e s = rw (eq-eqb y (char "-") d, e) refl
  single_open (y ∷ z ∷ w ∷ q) h d e s = absurd (omega arith)

  pub single_escaped : (q : List ℕ) → get_or q 0 0 ≡ char "-" → get_or q 1 0 ≡ char "\\" → 3 ≤ length q
      → member (range b (get_or q 2 0)) (n + 3) ≡ single b n q
  unfolding single
  single_escaped [] d e s = absurd (omega arith)
  single_escaped (y ∷ []) d e s = absurd (omega arith)
  single_escaped (y ∷ z ∷ []) d e s = absurd (omega arith)
  single_escaped (y ∷ z ∷ w ∷ q) d e s = rw (eq-eqb y (char "-") d, e) refl

-- After `[:`, with n bytes before the next `]`.

module _ (q : List ℕ) (n : ℕ) (e : n ≡ until_close q) where
  pub name_open : length q ≤ n → broken ≡ name_at q
  unfolding name_at
  name_open h = rw (← e, le-leb _ _ h) refl

  pub name_empty : n < length q → n ≡ 0 → member (byte (char "[")) 1 ≡ name_at q
  unfolding name_at
  name_empty h z = rw (← e, lt-leb _ _ h, eq-eqb n 0 z) refl

  pub name-plain : n < length q → (n ≡ 0 → ⊥) → (get_or q (n - 1) 0 ≡ char ":" → ⊥) → member (byte (char "[")) 1 ≡ name_at q
  unfolding name_at
  name-plain h z d = rw (← e, lt-leb _ _ h, ne_eqb n 0 z, ne_eqb _ (char ":") d) refl

  module _ (h : n < length q) (z : n ≡ 0 → ⊥) (colon : get_or q (n - 1) 0 ≡ char ":") where
    pub name_unknown : None ≡ which_name (take (n - 1) q) → broken ≡ name_at q
    unfolding name_at
    name_unknown f = rw (← e, lt-leb _ _ h, ne_eqb n 0 z, eq-eqb _ (char ":") colon, ← f) refl

    pub name-found : (k : ℕ) → Some k ≡ which_name (take (n - 1) q) → member (name k) (n + 3) ≡ name_at q
    unfolding name_at
    name-found k f = rw (← e, lt-leb _ _ h, ne_eqb n 0 z, eq-eqb _ (char ":") colon, ← f) refl

-- After `[`.

pub bracket_end : (q : List ℕ) → length q ≡ 0 → member (byte (char "[")) 1 ≡ bracket_at q
unfolding bracket_at
bracket_end [] h = refl
bracket_end (y ∷ q) h = absurd (omega arith)

pub bracket_name : (q : List ℕ) (r : Step) → (length q ≡ 0 → ⊥) → get_or q 0 0 ≡ char ":" → r ≡ name_at (from 1 q) → r ≡ bracket_at q
unfolding bracket_at
bracket_name [] r h e s = absurd (h refl)
bracket_name (y ∷ q) r h e s = rw (eq-eqb y (char ":") e) (s ∙ ap name_at (from-drop 1 (y ∷ q)))

pub bracket_single : (q : List ℕ) (r : Step) → (length q ≡ 0 → ⊥) → (get_or q 0 0 ≡ char ":" → ⊥) → r ≡ single (char "[") 1 q → r ≡ bracket_at q
unfolding bracket_at
bracket_single [] r h d s = absurd (h refl)
bracket_single (y ∷ q) r h d s = rw (ne_eqb y (char ":") d) s

-- Any member.

-- x is not the closing `]`
unfoldable pub NotClose : Bool → ℕ → Type 0
NotClose first x = (eqb x (char "]") && not first) ≡ false

pub first_goes_on : (first : Bool) (x : ℕ) → not first ≡ false → NotClose first x
unfolding NotClose
first_goes_on first x f = rw f (and-false (eqb x (char "]")))

pub other_goes_on : (first : Bool) (x : ℕ) → (x ≡ char "]" → ⊥) → NotClose first x
unfolding NotClose
other_goes_on first x d = rw (ne_eqb x (char "]") d) refl

module _ (first : Bool) where
  pub next_end : (q : List ℕ) → length q ≡ 0 → broken ≡ next_member first q
  unfolding next_member
  next_end [] h = refl
  next_end (x ∷ q) h = absurd (omega arith)

  pub next_close : (q : List ℕ) → (length q ≡ 0 → ⊥) → get_or q 0 0 ≡ char "]" → first ≡ false → close ≡ next_member first q
  unfolding next_member
  next_close [] h e f = absurd (h refl)
  next_close (x ∷ q) h e f = rw (eq-eqb x (char "]") e, f) refl

  pub next_open : (q : List ℕ) → (length q ≡ 0 → ⊥) → NotClose first (get_or q 0 0) → get_or q 0 0 ≡ char "\\" → length q < 2 → broken ≡ next_member first q
  unfolding next_member NotClose
  next_open [] h t e s = absurd (h refl)
  next_open (x ∷ []) h t e s = rw (t, eq-eqb x (char "\\") e) refl
  next_open (x ∷ y ∷ q) h t e s = absurd (omega arith)

  pub next_escaped : (q : List ℕ) (r : Step) → NotClose first (get_or q 0 0) → get_or q 0 0 ≡ char "\\" → 2 ≤ length q
      → r ≡ single (get_or q 1 0) 2 (from 2 q) → r ≡ next_member first q
  unfolding next_member NotClose
  next_escaped [] r t e h s = absurd (omega arith)
  next_escaped (x ∷ []) r t e h s = absurd (omega arith)
  next_escaped (x ∷ y ∷ q) r t e h s = rw (t, eq-eqb x (char "\\") e) (s ∙ ap (single y 2) (from-drop 2 (x ∷ y ∷ q)))

  pub next_bracket : (q : List ℕ) (r : Step) → (length q ≡ 0 → ⊥) → NotClose first (get_or q 0 0) → (get_or q 0 0 ≡ char "\\" → ⊥) → get_or q 0 0 ≡ char "["
      → r ≡ bracket_at (from 1 q) → r ≡ next_member first q
  unfolding next_member NotClose
  next_bracket [] r h t d e s = absurd (h refl)
  next_bracket (x ∷ q) r h t d e s = rw (t, ne_eqb x (char "\\") d, eq-eqb x (char "[") e) (s ∙ ap bracket_at (from-drop 1 (x ∷ q)))

  pub next_single : (q : List ℕ) (r : Step) → (length q ≡ 0 → ⊥) → NotClose first (get_or q 0 0) → (get_or q 0 0 ≡ char "\\" → ⊥) → (get_or q 0 0 ≡ char "[" → ⊥)
      → r ≡ single (get_or q 0 0) 1 (from 1 q) → r ≡ next_member first q
  unfolding next_member NotClose
  next_single [] r h t d e s = absurd (h refl)
  next_single (x ∷ q) r h t d e s = rw (t, ne_eqb x (char "\\") d, ne_eqb x (char "[") e) (s ∙ ap (single x 1) (from-drop 1 (x ∷ q)))

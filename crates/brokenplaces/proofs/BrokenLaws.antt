-- Where a pattern is broken: exactly where its items cannot be read; and how far reading goes with each byte that the code passes.
use mathlib.Core.Path.{◌≡◌, refl, sym, ap, ◌∙◌}
use mathlib.Core.Logic.{◌↔◌}
use mathlib.Core.Bool.{Bool, true, false, cond, ◌||◌, false≢true}
use mathlib.Core.List.{List, [], ◌∷◌}
use Rattle.std.specs.Prelude.{Option, None, Some}
use Prim.Native.Nat.{ℕ, zero, suc, pred, ◌+◌, ◌≤◌, ◌<◌}
use native.Mathlib.Nat.{add-zero, zero-add, suc-add, add_assoc}
use native.Mathlib.Numerals.{add-one, one-add}
use native.Mathlib.Omega.{arith}
use lib.Dec.{eqb}
use lib.ListN.{length, get_or, drop, length-drop, drop_of_length-le}
use lib.Seq.{drop-nil, drop-cons, drop-drop}
use borrow.Author.Tests.{eqb-true, eq-eqb, ne_eqb}
use Rattle.bytestrings.specs.Text.{char}
use Rattle.classes.specs.Members.{Class, read_class}
use Rattle.brokenplaces.specs.Sizes.{class_size}
use Rattle.classes.proofs.ClassLaws.{class_size_lem}
use Rattle.bytestrings.proofs.SliceLaws.{from, from-drop, length_from, get_or-from}
use Rattle.patterns.proofs.ReadLaws.{Sized, by_cases, item_sized}
use Rattle.patterns.specs.Patterns.{Item, literal, any_byte, First, broken, item, stars, read_run, read_escaped, read_bracket, read_item, and_item, items_after, items_from, items}
use Rattle.brokenplaces.specs.BrokenPlaces.{one_place_on, broken_after, broken_from, broken_at}
use Rattle.patterns.specs.Sharing.{Matches}
use Rattle.brokenplaces.specs.inner.ItemSizes.{may_break, size_of, first_size}
use Rattle.patterns.specs.declared.Mode.{Mode}

-- The place and the items are of one reading.

-- items were read and there is no place, or the other way round
abbrev Alike : Option (List Item) → Option ℕ → Type 0
Alike None None = ⊥
Alike None (Some n) = Unit {0}
Alike (Some its) None = Unit {0}
Alike (Some its) (Some n) = ⊥

alike_later : (o : Option (List Item)) (b : Option ℕ) → Alike o b → Alike o (one_place_on b)
alike_later None None h = h
alike_later None (Some n) h = tt
alike_later (Some its) None h = tt
alike_later (Some its) (Some n) h = h

alike_item : (it : Item) (o : Option (List Item)) (b : Option ℕ) → Alike o b → Alike (and_item it o) (one_place_on b)
alike_item it None None h = h
alike_item it None (Some n) h = tt
alike_item it (Some its) None h = tt
alike_item it (Some its) (Some n) h = h

alike : (p : List ℕ) (k : ℕ) (after : Bool) → Alike (items_from p k after) (broken_from p k after)
unfolding items_from broken_from
alike [] k after = tt
alike (x ∷ p) zero after = go (read_item after x p) (λ n. alike p n (eqb x (char "/")))
  where
    go : (f : First) → ((n : ℕ) → Alike (items_from p n (eqb x (char "/"))) (broken_from p n (eqb x (char "/"))))
        → Alike (items_after f (λ n. items_from p n (eqb x (char "/")))) (broken_after f (λ n. broken_from p n (eqb x (char "/"))))
    go broken r = tt
    go (item it n) r = alike_item it (items_from p (pred n) (eqb x (char "/"))) (broken_from p (pred n) (eqb x (char "/"))) (r (pred n))
alike (x ∷ p) (suc k) after = alike_later (items_from p k (eqb x (char "/"))) (broken_from p k (eqb x (char "/"))) (alike p k (eqb x (char "/")))

-- a pattern is broken exactly where there is a place
pub broken-place : (p : List ℕ) → (items p ≡ None) ↔ ((place : ℕ) × (broken_at p ≡ Some place))
broken-place p = go (items p) (broken_at p) refl refl (alike p 0 true)
  where
    go : (o : Option (List Item)) (b : Option ℕ) → items p ≡ o → broken_at p ≡ b → Alike o b → (items p ≡ None) ↔ ((place : ℕ) × (broken_at p ≡ Some place))
    go None None e f h = absurd h
    go None (Some n) e f h = (λ q. (n, f), λ q. e)
    go (Some its) None e f h = (λ q. absurd cc, λ q. absurd cc)
    go (Some its) (Some n) e f h = absurd h

-- and read into items exactly where there is none
pub unbroken_items : (p : List ℕ) → (broken_at p ≡ None) ↔ ((its : List Item) × (items p ≡ Some its))
unbroken_items p = go (items p) (broken_at p) refl refl (alike p 0 true)
  where
    go : (o : Option (List Item)) (b : Option ℕ) → items p ≡ o → broken_at p ≡ b → Alike o b → (broken_at p ≡ None) ↔ ((its : List Item) × (items p ≡ Some its))
    go None None e f h = absurd h
    go None (Some n) e f h = (λ q. absurd cc, λ q. absurd cc)
    go (Some its) None e f h = (λ q. (its, e), λ q. f)
    go (Some its) (Some n) e f h = absurd h

-- the item that would begin a pattern is broken
abbrev pub BrokenHere : List ℕ → Type 0
BrokenHere [] = ⊥
BrokenHere (x ∷ p) = (after : Bool) × (read_item after x p ≡ broken)

later_some : (o : Option ℕ) (n : ℕ) → one_place_on o ≡ Some n → (k : ℕ) × (o ≡ Some k) × (n ≡ suc k)
later_some None n e = absurd cc
later_some (Some k) n e = let q : n ≡ suc k = cc in (k, refl, q)

-- from a place counted from one byte later
one_later : (x : ℕ) (p : List ℕ) (o : Option ℕ) (n : ℕ) → one_place_on o ≡ Some n → ((k : ℕ) → o ≡ Some k → (k < length p) × BrokenHere (drop k p))
    → (n < length (x ∷ p)) × BrokenHere (drop n (x ∷ p))
one_later x p o n e h = let s = later_some o n e in let r = h s.0 s.1 in rw s.2 (omega (arith, r.0), r.1)

place-from : (p : List ℕ) (k : ℕ) (after : Bool) (n : ℕ) → broken_from p k after ≡ Some n → (n < length p) × BrokenHere (drop n p)
unfolding broken_from
place-from [] k after n e = absurd cc
place-from (x ∷ p) zero after n e = go (read_item after x p) refl (λ k j. place-from p k (eqb x (char "/")) j) e
  where
    go : (f : First) → read_item after x p ≡ f → ((k j : ℕ) → broken_from p k (eqb x (char "/")) ≡ Some j → (j < length p) × BrokenHere (drop j p))
        → broken_after f (λ n. broken_from p n (eqb x (char "/"))) ≡ Some n → (n < length (x ∷ p)) × BrokenHere (drop n (x ∷ p))
    go broken q r e = let z : n ≡ 0 = cc in rw z (omega arith, (after, q))
    go (item it m) q r e = one_later x p (broken_from p (pred m) (eqb x (char "/"))) n e (r (pred m))
place-from (x ∷ p) (suc k) after n e = one_later x p (broken_from p k (eqb x (char "/"))) n e (place-from p k (eqb x (char "/")))

-- the place is one of the pattern's, and the item that begins there is broken
pub place_begins : (p : List ℕ) (place : ℕ) → broken_at p ≡ Some place → (place < length p) × BrokenHere (drop place p)
place_begins p place e = place-from p 0 true place e

-- "A broken pattern matches nothing."
pub broken_unmatched : (m : Mode) (p t : List ℕ) (place : ℕ) → broken_at p ≡ Some place → Matches m p t → ⊥
unfolding Matches
broken_unmatched m p t place e w = let n = (broken-place p).1 (place, e) in absurd cc

-- Reading on from a place.

-- a place counted from n bytes before
abbrev later_by : ℕ → Option ℕ → Option ℕ
later_by n None = None
later_by n (Some place) = Some (n + place)

later_zero : (o : Option ℕ) → o ≡ later_by 0 o
later_zero None = refl
later_zero (Some n) = rw (zero-add n) refl

later_one : (o : Option ℕ) → one_place_on o ≡ later_by 1 o
later_one None = refl
later_one (Some n) = rw (one-add n) refl

later_suc : (n : ℕ) (o : Option ℕ) → one_place_on (later_by n o) ≡ later_by (suc n) o
later_suc n None = refl
later_suc n (Some k) = rw (suc-add n k) refl

later_more : (i n : ℕ) (o : Option ℕ) → later_by i (later_by n o) ≡ later_by (i + n) o
later_more i n None = refl
later_more i n (Some k) = rw (add_assoc i n k) refl

-- what stands before an item decides how far a run reaches, and not how many bytes the item has nor whether it is broken
first_after : (a b : Bool) (x : ℕ) (p : List ℕ) (rest : ℕ → Option ℕ) → broken_after (read_item a x p) rest ≡ broken_after (read_item b x p) rest
unfolding read_item read_run
first_after a b x p rest = go (eqb x (char "\\")) (eqb x (char "?")) (eqb x (char "*")) (eqb x (char "["))
  where
    go : (c d e f : Bool)
        → broken_after (cond c (read_escaped p) (cond d (item any_byte 1) (cond e (read_run a (x ∷ p)) (cond f (read_bracket (read_class p)) (item (literal x) 1))))) rest
        ≡ broken_after (cond c (read_escaped p) (cond d (item any_byte 1) (cond e (read_run b (x ∷ p)) (cond f (read_bracket (read_class p)) (item (literal x) 1))))) rest
    go true d e f = refl
    go false true e f = refl
    go false false true f = refl
    go false false false f = refl

same_place : (p : List ℕ) (k : ℕ) (a b : Bool) → broken_from p k a ≡ broken_from p k b
unfolding broken_from
same_place [] k a b = refl
same_place (x ∷ p) zero a b = first_after a b x p (λ n. broken_from p n (eqb x (char "/")))
same_place (x ∷ p) (suc k) a b = refl

-- after k bytes of an item the place is looked for in what follows them
place-drop : (p : List ℕ) (k : ℕ) (after : Bool) → broken_from p k after ≡ later_by k (broken_from (drop k p) 0 true)
unfolding broken_from
place-drop [] k after = rw (drop-nil {A = ℕ} k) refl
place-drop (x ∷ p) zero after = same_place (x ∷ p) 0 after true ∙ later_zero (broken_from (x ∷ p) 0 true)
place-drop (x ∷ p) (suc k) after = ap one_place_on (place-drop p k (eqb x (char "/"))) ∙ later_suc k (broken_from (drop k p) 0 true)

-- the first item is broken, or its bytes are passed
abbrev FirstPassed : List ℕ → First → Type 0
FirstPassed p broken = broken_from p 0 true ≡ Some 0
FirstPassed p (item it n) = (1 ≤ n) × (n ≤ length p) × (broken_from p 0 true ≡ later_by n (broken_from (drop n p) 0 true))

item-passed : (x : ℕ) (p : List ℕ) → FirstPassed (x ∷ p) (read_item false x p)
unfolding broken_from
item-passed x p = go (read_item false x p) refl (item_sized false x p)
  where
    go : (f : First) → read_item false x p ≡ f → Sized false (x ∷ p) f → FirstPassed (x ∷ p) f
    go broken e s = same_place (x ∷ p) 0 true false ∙ ap (λ (f : First). broken_after f (λ n. broken_from p n (eqb x (char "/")))) e
    go (item it zero) e s = absurd (omega (arith, s.0))
    go (item it (suc n)) e s = (
      s.0,
      s.1,
      same_place (x ∷ p) 0 true false ∙ ap (λ (f : First). broken_after f (λ n. broken_from p n (eqb x (char "/")))) e ∙ ap one_place_on (place-drop p n (eqb x (char "/")))
          ∙ later_suc n (broken_from (drop n p) 0 true),
    )

-- after its first star, a run may be passed star by star
stars-passed : (p : List ℕ) (a b : Bool) → broken_from p (stars p) a ≡ broken_from p 0 b
unfolding broken_from stars read_item read_run
stars-passed [] a b = refl
stars-passed (x ∷ p) a b = go (eqb x (char "*")) refl
  where
    go : (t : Bool) → eqb x (char "*") ≡ t → broken_from (x ∷ p) (cond t (suc (stars p)) 0) a ≡ broken_from (x ∷ p) 0 b
    go true e = let h = eqb-true x (char "*") e in rw h refl
    go false e = same_place (x ∷ p) 0 a b

-- a byte that begins neither an escape nor a class
neither : (a b : Bool) → a || b ≡ false → (a ≡ false) × (b ≡ false)
neither true b e = absurd (false≢true (sym e))
neither false b e = (refl, e)

module _ (x : ℕ) (p : List ℕ) where
  abbrev ByteOn : First → Type 0
  ByteOn f = broken_after f (λ n. broken_from p n (eqb x (char "/"))) ≡ later_by 1 (broken_from p 0 true)

  one_on : (it : Item) → ByteOn (item it 1)
  one_on it = ap one_place_on (same_place p 0 (eqb x (char "/")) true) ∙ later_one (broken_from p 0 true)

  run_on : eqb x (char "*") ≡ true → ByteOn (read_run true (x ∷ p))
  unfolding read_run stars
  run_on e = rw e (ap one_place_on (stars-passed p (eqb x (char "/")) true) ∙ later_one (broken_from p 0 true))

  byte-passed : may_break x ≡ false → broken_from (x ∷ p) 0 true ≡ later_by 1 (broken_from p 0 true)
  unfolding broken_from may_break read_item
  byte-passed h =
      let n = neither (eqb x (char "\\")) (eqb x (char "[")) h in
      by_cases ByteOn (eqb x (char "\\")) _ _ (λ e. absurd (false≢true (sym n.0 ∙ e)))
      (λ e. by_cases ByteOn (eqb x (char "?")) _ _ (λ e. one_on any_byte)
      (λ e. by_cases ByteOn (eqb x (char "*")) _ _ run_on
      (λ e. by_cases ByteOn (eqb x (char "[")) _ _ (λ e. absurd (false≢true (sym n.1 ∙ e))) (λ e. one_on (literal x)))))

-- How many bytes an escape and a class are written with, by the tests that the code makes.

pub escape_open : (p : List ℕ) → 0 < length p → get_or p 0 0 ≡ char "\\" → length p < 2 → None ≡ first_size p
unfolding first_size size_of read_item
escape_open [] l e h = refl
escape_open (x ∷ []) l e h = rw (eq-eqb x (char "\\") e) refl
escape_open (x ∷ y ∷ p) l e h = absurd (omega arith)

pub escape_size : (p : List ℕ) → get_or p 0 0 ≡ char "\\" → 2 ≤ length p → Some 2 ≡ first_size p
unfolding first_size size_of read_item
escape_size [] e h = absurd (omega arith)
escape_size (x ∷ []) e h = absurd (omega arith)
escape_size (x ∷ y ∷ p) e h = rw (eq-eqb x (char "\\") e) refl

module _ (p : List ℕ) (l : 0 < length p) (e : may_break (get_or p 0 0) ≡ true) (d : get_or p 0 0 ≡ char "\\" → ⊥) where
  class_first : first_size p ≡ size_of (read_bracket (read_class (from 1 p)))
  unfolding first_size may_break read_item
  class_first = go p l e d
    where
      go : (p : List ℕ) → 0 < length p → (eqb (get_or p 0 0) (char "\\") || eqb (get_or p 0 0) (char "[")) ≡ true → (get_or p 0 0 ≡ char "\\" → ⊥)
          → first_size p ≡ size_of (read_bracket (read_class (from 1 p)))
      go [] l e d = absurd (omega arith)
      go (x ∷ p) l e d = let b : eqb x (char "[") ≡ true = rw (ne_eqb x (char "\\") d) at e in rw (ne_eqb x (char "\\") d, b, eqb-true x (char "[") b, from-drop 1 (x ∷ p)) refl

  pub class_open : None ≡ class_size (read_class (from 1 p)) → None ≡ first_size p
  unfolding size_of read_bracket class_size
  class_open q = go (read_class (from 1 p)) q ∙ sym class_first
    where
      go : (o : Option Class) → None ≡ class_size o → None ≡ size_of (read_bracket o)
      go None h = refl
      go (Some c) h = absurd cc

  module _ (n : ℕ) (q : Some n ≡ class_size (read_class (from 1 p))) where
    pub class_whole : Some (n + 1) ≡ first_size p
    unfolding size_of read_bracket class_size
    class_whole = go (read_class (from 1 p)) q ∙ sym class_first
      where
        go : (o : Option Class) → Some n ≡ class_size o → Some (n + 1) ≡ size_of (read_bracket o)
        go None h = absurd cc
        go (Some c) h = let m : n ≡ c.size = cc in rw (m, add-one c.size) refl

    -- so that the sum fits
    pub class_within : n ≤ length p
    unfolding class_size
    class_within = go (read_class (from 1 p)) refl q
      where
        go : (o : Option Class) → read_class (from 1 p) ≡ o → Some n ≡ class_size o → n ≤ length p
        go None k h = absurd cc
        go (Some c) k h = let m : n ≡ c.size = cc in let s = class_size_lem (from 1 p) c k in omega (arith, s.1, length_from 1 p)

-- The code's loop: the place from the i-th byte on.

unfoldable pub Left : List ℕ → ℕ → Type 0
Left p i = broken_at p ≡ later_by i (broken_from (drop i p) 0 true)

pub left_all : (p : List ℕ) → Left p 0
unfolding Left
left_all p = later_zero (broken_at p)

-- where no byte is left
pub left_none : (p : List ℕ) (i : ℕ) → length p ≤ i → Left p i → None ≡ broken_at p
unfolding Left broken_from
left_none p i h s = sym (s ∙ ap (λ (l : List ℕ). later_by i (broken_from l 0 true)) (drop_of_length-le p h))

-- the byte here begins the part that is read
pub may_break_from : (p : List ℕ) (i : ℕ) → i < length p → (b : Bool) → b ≡ may_break (get_or p i 0) → b ≡ true → (0 < length (from i p)) × (may_break (get_or (from i p) 0 0) ≡ true)
may_break_from p i h b e t = (let l = length_from i p in omega arith, rw (get_or-from i 0 p, add-zero i) (sym e ∙ t))

module _ (p : List ℕ) (i : ℕ) (h : i < length p) (s : Left p i) where
  -- what the first n bytes from here on leave
  more : (n : ℕ) → broken_from (drop i p) 0 true ≡ later_by n (broken_from (drop n (drop i p)) 0 true) → Left p (i + n)
  unfolding Left
  more n e = s ∙ ap (later_by i) e ∙ later_more i n (broken_from (drop n (drop i p)) 0 true) ∙ ap (λ (l : List ℕ). later_by (i + n) (broken_from l 0 true)) (drop-drop n i p)

  pub left_byte : (b : Bool) → b ≡ may_break (get_or p i 0) → b ≡ false → Left p (i + 1)
  left_byte b e f = more 1 (rw (drop-cons p i 0 h) (byte-passed (get_or p i 0) (drop (suc i) p) (sym e ∙ f)))

  first : FirstPassed (drop i p) (read_item false (get_or p i 0) (drop (suc i) p))
  first = rw (drop-cons p i 0 h) (item-passed (get_or p i 0) (drop (suc i) p))

  module _ (r : Option ℕ) (e : r ≡ first_size (from i p)) where
    size : r ≡ size_of (read_item false (get_or p i 0) (drop (suc i) p))
    unfolding first_size
    size = e ∙ ap first_size (from-drop i p ∙ drop-cons p i 0 h)

    pub left_broken : r ≡ None → Some i ≡ broken_at p
    unfolding Left size_of
    left_broken z = go (read_item false (get_or p i 0) (drop (suc i) p)) first (sym z ∙ size)
      where
        go : (f : First) → FirstPassed (drop i p) f → None ≡ size_of f → Some i ≡ broken_at p
        go broken k q = sym (s ∙ ap (later_by i) k ∙ ap Some (add-zero i))
        go (item it m) k q = absurd cc

    pub left_item : (n : ℕ) → r ≡ Some n → (1 ≤ n) × (i + n ≤ length p) × Left p (i + n)
    unfolding size_of
    left_item n z = go (read_item false (get_or p i 0) (drop (suc i) p)) first (sym z ∙ size)
      where
        go : (f : First) → FirstPassed (drop i p) f → Some n ≡ size_of f → (1 ≤ n) × (i + n ≤ length p) × Left p (i + n)
        go broken k q = absurd cc
        go (item it m) k q = let g : n ≡ m = cc in rw g (k.0, let l = length-drop i p in omega (arith, k.1), more m k.2)

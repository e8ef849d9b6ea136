-- Slices of a slice, and places of a list.
use mathlib.Core.Path.{◌≡◌, sym, ap, ◌∙◌}
use mathlib.Core.List.{List, ◌∷◌}
use Prim.Native.Nat.{ℕ, ◌+◌, ◌-◌, ◌<◌, ◌≤◌}
use native.Mathlib.Nat.{le_refl}
use native.Mathlib.Numerals.{add-one}
use native.Mathlib.Omega.{arith}
use lib.ListN.{length, take, drop, get_or, length-drop}
use lib.Seq.{take_all, drop-cons, drop-drop, get_or-drop}

-- the slice `&q[n..]`
abbrev pub from : ℕ → List ℕ → List ℕ
from n q = take (length q - n) (drop n q)

pub from-drop : (n : ℕ) (q : List ℕ) → from n q ≡ drop n q
from-drop n q = take_all (length q - n) (drop n q) (simp length-drop (le_refl _))

-- what stands from place i on: the byte there, and the rest
pub next : (s : List ℕ) (i : ℕ) → i < length s → drop i s ≡ get_or s i 0 ∷ drop (i + 1) s
next s i h = rw (add-one i) (drop-cons s i 0 h)

-- a place after place k, counted from k
pub drop_on : (k j : ℕ) (l : List ℕ) → k ≤ j → drop (j - k) (drop k l) ≡ drop j l
drop_on k j l h = let e : k + (j - k) ≡ j = omega arith in drop-drop (j - k) k l ∙ ap (λ (n : ℕ). drop n l) e

pub get_or_on : (k j : ℕ) (l : List ℕ) → k ≤ j → get_or (drop k l) (j - k) 0 ≡ get_or l j 0
get_or_on k j l h = let e : k + (j - k) ≡ j = omega arith in get_or-drop k l (j - k) 0 ∙ ap (λ (n : ℕ). get_or l n 0) e

pub length_from : (n : ℕ) (l : List ℕ) → length (from n l) ≡ length l - n
length_from n l = ap length (from-drop n l) ∙ length-drop n l

pub get_or-from : (n i : ℕ) (l : List ℕ) → get_or (from n l) i 0 ≡ get_or l (n + i) 0
get_or-from n i l = ap (λ (u : List ℕ). get_or u i 0) (from-drop n l) ∙ get_or-drop n l i 0

-- a slice of a slice
pub from-from : (k j : ℕ) (t : List ℕ) → from j (from k t) ≡ from (k + j) t
from-from k j t = from-drop j (from k t) ∙ ap (drop j) (from-drop k t) ∙ drop-drop j k t ∙ sym (from-drop (k + j) t)

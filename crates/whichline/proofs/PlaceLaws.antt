-- Where what was put ends: the laws behind specs/Places.antt.
use Prim.Native.Nat.{ℕ, ◌+◌, ◌≤◌, ◌<◌}
use mathlib.Core.Path.{◌≡◌, refl, ap, ◌∙◌}
use native.Mathlib.Numerals.{add-one}
use mathlib.Core.Bool.{Bool, true, false, not, ◌||◌, ◌&&◌}
use mathlib.Core.List.{List, [], ◌∷◌}
use native.Mathlib.Omega.{arith}
use borrow.Author.Tests.{le-leb, lt-leb}
use lib.ListN.{length, drop, get_or, drop_of_length-le}
use lib.Seq.{drop-cons}
use Rattle.std.specs.List.{list_any}
use Rattle.std.specs.Char.{is_ascii_control}
use Rattle.std.proofs.lemmas.Bool.Decides.{nat_tests}
use Rattle.std.specs.Prelude.{Option, Some, None}
use Rattle.io.specs.Digits.{IsDigitCount}
use Rattle.whichline.specs.Filled.{Filled}
use Rattle.whichline.specs.Places.{after, control, letter_of, after_quoted, after_bytes, is_text, plain, after_field, reason_length, AfterRefusal}

pub after_fits : (out : Filled) (n : ℕ) → out.at + n ≤ out.room → record { room = out.room; at = out.at + n } ≡ after out n
unfolding after
after_fits out n h = rw (le-leb (out.at + n) out.room h)

pub after_full : (out : Filled) (n : ℕ) → out.room < out.at + n → out ≡ after out n
unfolding after
after_full out n h = rw (lt-leb (out.at + n) out.room h)

-- the library's test, and its word for each byte of a text
pub control_is : (b : ℕ) (r : Bool) → r ≡ is_ascii_control b → r ≡ control b
unfolding control
control_is b r e = e ∙ grind (arith, nat_tests)

none : (s : List ℕ) → not (list_any control s) ≡ is_text s
none [] = refl
none (b ∷ s) = not-or (control b) (list_any control s) ∙ ap (λ (r : Bool). not (control b) && r) (none s)
  where
    not-or : (x y : Bool) → not (x || y) ≡ (not x && not y)
    not-or true y = refl
    not-or false y = refl

pub none_control : (s : List ℕ) (r : Bool) → r ≡ list_any control s → not r ≡ is_text s
none_control s r e = ap not e ∙ none s

-- a byte between quotes: two bytes for one that has a letter
pub quoted_letter : (out p r : Filled) (b l : ℕ) (o : Option ℕ) → o ≡ letter_of b → o ≡ Some l → p ≡ after out 1 → r ≡ after p 1 → r ≡ after_quoted out b
unfolding after_quoted
quoted_letter out p r b l o e h f g = rw (← e, h, ← f) g

pub quoted_digits : (out r : Filled) (b : ℕ) (o : Option ℕ) → o ≡ letter_of b → o ≡ None → true ≡ control b → r ≡ after out 4 → r ≡ after_quoted out b
unfolding after_quoted
quoted_digits out r b o e h f g = rw (← e, h, ← f) g

pub quoted_itself : (out r : Filled) (b : ℕ) (o : Option ℕ) → o ≡ letter_of b → o ≡ None → false ≡ control b → r ≡ after out 1 → r ≡ after_quoted out b
unfolding after_quoted
quoted_itself out r b o e h f g = rw (← e, h, ← f) g

-- the bytes of a field, one after the other
pub bytes_turn : (all out r : Filled) (s : List ℕ) (i : ℕ) → i < length s
    → all ≡ after_bytes out (drop i s) → r ≡ after_quoted out (get_or s i 0) → all ≡ after_bytes r (drop (i + 1) s)
bytes_turn all out r s i h f e = f ∙ rw (drop-cons s i 0 h, add-one i, e) refl

pub bytes_end : (all out : Filled) (s : List ℕ) (i : ℕ) → length s ≤ i → all ≡ after_bytes out (drop i s) → all ≡ out
bytes_end all out s i h f = f ∙ rw (drop_of_length-le s h) refl

-- a field is put as it is, or between quotes
pub field_plain : (out r : Filled) (s : List ℕ) → true ≡ plain s → r ≡ after out (length s) → r ≡ after_field out s
unfolding after_field
field_plain out r s e f = rw (← e) f

pub field_quoted : (out first last r : Filled) (s : List ℕ) → false ≡ plain s → first ≡ after out 1 → after_bytes first s ≡ last → r ≡ after last 1 → r ≡ after_field out s
unfolding after_field
field_quoted out first last r s e f g h = rw (← e, ← f, g) h

-- the parts of a refusal, put one after the other
pub refusal_put : (out word number colon r : Filled) (n : ℕ) → word ≡ after out 8 → (digits : ℕ) × IsDigitCount 10 1 n digits × (number ≡ after word digits)
    → colon ≡ after number 2 → r ≡ after colon (reason_length n) → AfterRefusal out n r
refusal_put out word number colon r n e f g h = (number, (f.0, f.1, rw (← e) f.2), rw (← g) h)

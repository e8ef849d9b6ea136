-- Document 02, R-14: where a pattern is broken.
use Rattle.std.specs.Prelude.{ℕ, zero, suc, pred, Bool, true, List, [], ◌∷◌, eqb, Option, None, Some}
use Rattle.bytestrings.specs.Text.{char}
use Rattle.patterns.specs.Patterns.{First, broken, item, read_item}

-- "the place in the pattern of the byte where the first broken item begins". The items are those that `items_from` reads (patterns Patterns).

-- a place counted from one byte before
abbrev pub one_place_on : Option ℕ → Option ℕ
one_place_on None = None
one_place_on (Some place) = Some (suc place)

-- the item that begins here is broken, or the place is looked for after its n bytes, of which the first byte is passed already
abbrev pub broken_after : First → (ℕ → Option ℕ) → Option ℕ
broken_after broken rest = Some 0
broken_after (item it n) rest = one_place_on (rest (pred n))

-- the place, counted from 0, in a pattern of which the first k bytes belong to an item that was read; none: no item is broken.
-- `after` as for `items_from`
unfoldable pub broken_from : List ℕ → ℕ → Bool → Option ℕ
broken_from [] k after = None
broken_from (x ∷ p) zero after = broken_after (read_item after x p) (λ n. broken_from p n (eqb x (char "/")))
broken_from (x ∷ p) (suc k) after = one_place_on (broken_from p k (eqb x (char "/")))

-- the place in a whole pattern
abbrev pub broken_at : List ℕ → Option ℕ
broken_at p = broken_from p 0 true

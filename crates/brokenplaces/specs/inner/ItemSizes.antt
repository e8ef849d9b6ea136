-- How many bytes the first item of a pattern is written with.
use Rattle.std.specs.Prelude.{ℕ, Bool, false, ◌||◌, List, [], ◌∷◌, eqb, Option, None, Some}
use Rattle.bytestrings.specs.Text.{char}
use Rattle.patterns.specs.Patterns.{First, broken, item, read_item}

-- only an item that such a byte begins may be broken: an escape or a class
unfoldable pub may_break : ℕ → Bool
may_break c = eqb c (char "\\") || eqb c (char "[")

-- how many bytes an item is written with; none: it is broken
unfoldable pub size_of : First → Option ℕ
size_of broken = None
size_of (item it n) = Some n

-- the same of the first item of a pattern, which has one
unfoldable pub first_size : List ℕ → Option ℕ
first_size [] = None
first_size (x ∷ p) = size_of (read_item false x p)

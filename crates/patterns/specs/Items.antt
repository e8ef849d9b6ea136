-- The first item of a pattern by itself, as an engine asks for it.
use Rattle.std.specs.Prelude.{ℕ, Bool, false, cond, not, ◌&&◌, List, [], ◌∷◌, eqb, Option, None, Some}
use Rattle.bytestrings.specs.Text.{char}
use Rattle.patterns.specs.Patterns.{First, broken, item, read_item}
use Rattle.patterns.specs.Sharing.{accepts}
use Rattle.patterns.specs.declared.Mode.{Mode}

-- "Any other byte is literal": the byte stands for itself as an item
unfoldable pub is_literal : ℕ → Bool
is_literal c = not (eqb c (char "*")) && (not (eqb c (char "?")) && (not (eqb c (char "[")) && not (eqb c (char "\\"))))

-- how many bytes the first item of a pattern is written with, where it is of one byte and accepts x; else none
unfoldable pub taken_by : Mode → ℕ → First → Option ℕ
taken_by m x broken = None
taken_by m x (item it n) = cond (accepts m it x) (Some n) None

-- the same, of a pattern
unfoldable pub taken : Mode → List ℕ → ℕ → Option ℕ
taken m [] x = None
taken m (y ∷ p) x = taken_by m x (read_item false y p)

-- Whether a pattern matches, as a test that can be computed. The questions are defined by it; `MatchDecided`, which an engine promises, has it beside the
-- relation `Matches`, and proofs/Meaning.antt proves that it decides that relation.
use Rattle.std.specs.Prelude.{ℕ, ◌≡◌, ◌↔◌, Bool, true, false, ◌&&◌, ◌||◌, List, [], ◌∷◌, eqb, Option, None, Some}
use Rattle.bytestrings.specs.Bytes.{is_empty}
use Rattle.bytestrings.specs.Text.{char}
use Rattle.patterns.specs.Patterns.{Reach, within, crossing, crossing_slash, Item, literal, any_byte, one_of, run, items_from}
use Rattle.patterns.specs.Sharing.{inside, accepts, Matches}
use Rattle.patterns.specs.declared.Mode.{Mode}

-- one byte that a accepts, and then what `rest` takes
abbrev pub one_then : (ℕ → Bool) → (List ℕ → Bool) → List ℕ → Bool
one_then a rest [] = false
one_then a rest (x ∷ t) = a x && rest t

-- any number of bytes that a accepts, and then what `rest` takes
abbrev pub run_then : (ℕ → Bool) → (List ℕ → Bool) → List ℕ → Bool
run_then a rest [] = rest []
run_then a rest (x ∷ t) = rest (x ∷ t) || a x && run_then a rest t

-- the bytes that a run may take
abbrev pub passes : Mode → Reach → ℕ → Bool
passes m within x = inside m x
passes m crossing x = true
passes m crossing_slash x = true

-- what an item may take, and then what `rest` takes
abbrev pub item_then : Mode → Item → (List ℕ → Bool) → List ℕ → Bool
item_then m (literal c) rest t = one_then (accepts m (literal c)) rest t
item_then m any_byte rest t = one_then (accepts m any_byte) rest t
item_then m (one_of c) rest t = one_then (accepts m (one_of c)) rest t
item_then m (run r) rest t = run_then (passes m r) rest t

-- the two items may together take nothing
abbrev pub vanish : Mode → Item → Item → Bool
vanish m (run crossing_slash) (literal c) = m.path && eqb c (char "/")
vanish m (run crossing_slash) any_byte = false
vanish m (run crossing_slash) (one_of c) = false
vanish m (run crossing_slash) (run r) = false
vanish m (run within) it = false
vanish m (run crossing) it = false
vanish m (literal c) it = false
vanish m any_byte it = false
vanish m (one_of c) it = false

-- the text can be shared out among the items
abbrev pub shares_test : Mode → List Item → List ℕ → Bool
shares_test m [] t = is_empty t
shares_test m (it ∷ []) t = item_then m it is_empty t
shares_test m (it ∷ jt ∷ its) t = item_then m it (shares_test m (jt ∷ its)) t || vanish m it jt && shares_test m its t

-- the same of the items that were read; "A broken pattern matches nothing." R-14: "Both questions .. treat broken as no match as before"
abbrev pub shares_of : Mode → Option (List Item) → List ℕ → Bool
shares_of m None t = false
shares_of m (Some its) t = shares_test m its t

-- what is left of a pattern matches the text. `after`: it is the whole pattern, or follows a byte `/`
unfoldable pub tail_matches : Mode → Bool → List ℕ → List ℕ → Bool
tail_matches m after p t = shares_of m (items_from p 0 after) t

-- the whole pattern matches the text
unfoldable pub matches_test : Mode → List ℕ → List ℕ → Bool
matches_test m p t = tail_matches m true p t

-- without refusals: "it matches exactly when the text is the joining, in order, of what its items may take", as the relation and as
-- the test that decides it
pub record MatchDecided (mode : Mode) (pattern text : List ℕ) (answer : Bool) : Type 0 where
  pub means : (answer ≡ true) ↔ Matches mode pattern text
  pub test : answer ≡ matches_test mode pattern text

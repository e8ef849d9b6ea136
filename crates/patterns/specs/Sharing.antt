-- Document 01, "Patterns": what each item may take, and when a pattern matches a text: demand 2's "exactly when the text can be shared out among
-- the pattern's items".
use Rattle.std.specs.Prelude.{ℕ, ◌≡◌, Bool, true, false, not, ◌&&◌, List, [], ◌∷◌, ◌++◌, eqb, Some}
use Rattle.bytestrings.specs.Text.{char}
use Rattle.bytestrings.specs.Letters.{folded}
use Rattle.classes.specs.Members.{class_accepts}
use Rattle.patterns.specs.Patterns.{within, crossing, crossing_slash, Item, literal, any_byte, one_of, run, items}
use Rattle.patterns.specs.declared.Mode.{Mode}

-- x may be taken within a component: "in path mode not `/`", "any bytes but `/`", "In path mode no class takes `/`"
unfoldable pub inside : Mode → ℕ → Bool
inside m x = not (m.path && eqb x (char "/"))

-- an item of one byte accepts x. "`?` takes one byte". "Folding case: a literal, or the list in a class before "not", accepts a byte
-- if it accepts its lower or its upper ASCII form."
unfoldable pub accepts : Mode → Item → ℕ → Bool
accepts m (literal c) x = folded m.fold (λ y. eqb y c) x
accepts m any_byte x = inside m x
accepts m (one_of c) x = inside m x && class_accepts m.fold c.negated c.list x
accepts m (run r) x = false

-- each byte of w is one that a accepts
abbrev pub Each : (ℕ → Bool) → List ℕ → Type 0
Each a [] = Unit {0}
Each a (x ∷ w) = (a x ≡ true) × Each a w

-- w is one byte that the item accepts
abbrev pub TakesOne : Mode → Item → List ℕ → Type 0
TakesOne m it w = (x : ℕ) × (w ≡ x ∷ []) × (accepts m it x ≡ true)

-- w is what an item may take. "Without path mode it takes any bytes, also none. In path mode it takes any bytes but `/`, except when ..
-- it crosses and takes any bytes."
abbrev pub Takes : Mode → Item → List ℕ → Type 0
Takes m (literal c) w = TakesOne m (literal c) w
Takes m any_byte w = TakesOne m any_byte w
Takes m (one_of c) w = TakesOne m (one_of c) w
Takes m (run within) w = Each (inside m) w
Takes m (run crossing) w = Unit {0}
Takes m (run crossing_slash) w = Unit {0}

-- "the text is the joining, in order, of what its items may take". "What follows a crossing run is matched by these same rules": the
-- items after any item share the rest in the same way
pub data Shares (m : Mode) : List Item → List ℕ → Type 0 where
  -- no items take nothing
  none_left : Shares m [] []
  -- the first item takes w, the others take u
  shared : {it : Item} {its : List Item} {t : List ℕ} (w u : List ℕ) → t ≡ w ++ u → Takes m it w → Shares m its u → Shares m (it ∷ its) t
  -- "A crossing run followed by an unescaped `/` may also, with that slash, take nothing."
  vanished : {its : List Item} {t : List ℕ} → m.path ≡ true → Shares m its t → Shares m (run crossing_slash ∷ literal (char "/") ∷ its) t

-- "A broken pattern matches nothing. Otherwise it matches exactly when the text is the joining, in order, of what its items may take."
unfoldable pub Matches : Mode → List ℕ → List ℕ → Type 0
Matches m p t = (its : List Item) × (items p ≡ Some its) × Shares m its t

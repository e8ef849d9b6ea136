-- Tests and parts of byte strings, which several definitions use.
use Rattle.std.specs.Prelude.{ℕ, suc, Bool, true, false, cond, ◌&&◌, ◌||◌, List, [], ◌∷◌, eqb, leb}

-- b is a byte from low to high
abbrev pub in_range : ℕ → ℕ → ℕ → Bool
in_range low high b = leb low b && leb b high

-- there are no bytes
abbrev pub is_empty : List ℕ → Bool
is_empty [] = true
is_empty (x ∷ s) = false

-- the two are the same bytes
unfoldable pub same_bytes : List ℕ → List ℕ → Bool
same_bytes [] [] = true
same_bytes [] (y ∷ b) = false
same_bytes (x ∷ a) [] = false
same_bytes (x ∷ a) (y ∷ b) = eqb x y && same_bytes a b

-- the first byte is b
abbrev pub first_is : ℕ → List ℕ → Bool
first_is b [] = false
first_is b (x ∷ s) = eqb x b

-- the last byte is b
abbrev pub last_is : ℕ → List ℕ → Bool
last_is b [] = false
last_is b (x ∷ []) = eqb x b
last_is b (x ∷ y ∷ s) = last_is b (y ∷ s)

-- all but the last byte
abbrev pub without_last : List ℕ → List ℕ
without_last [] = []
without_last (x ∷ []) = []
without_last (x ∷ y ∷ s) = x ∷ without_last (y ∷ s)

-- b is among the bytes
abbrev pub has : ℕ → List ℕ → Bool
has b [] = false
has b (x ∷ s) = eqb x b || has b s

-- they begin with these bytes
abbrev pub begins_with : List ℕ → List ℕ → Bool
begins_with [] s = true
begins_with (x ∷ w) [] = false
begins_with (x ∷ w) (b ∷ s) = eqb b x && begins_with w s

-- how many bytes stand before the first that has a property; all where none has it
abbrev pub length_until : (ℕ → Bool) → List ℕ → ℕ
length_until p [] = 0
length_until p (x ∷ s) = cond (p x) 0 (suc (length_until p s))

-- What the scan of a path finds.
use Rattle.std.specs.Prelude.{ℕ, Bool, true, false, ◌||◌, ◌&&◌, List, [], ◌∷◌, eqb}
use Rattle.bytestrings.specs.Text.{char}

-- a component that has come to these bytes ends there
unfoldable pub ends_here : List ℕ → Bool
ends_here [] = true
ends_here (b ∷ s) = eqb b (char "/")

-- a component that has one dot and goes on with these bytes is `.` or `..`
unfoldable pub dots_here : List ℕ → Bool
dots_here [] = true
dots_here (b ∷ s) = eqb b (char "/") || (eqb b (char ".") && ends_here s)

-- a component that starts with these bytes is empty, `.` or `..`
unfoldable pub bad_here : List ℕ → Bool
bad_here [] = true
bad_here (b ∷ s) = eqb b (char "/") || (eqb b (char ".") && dots_here s)

-- such a component starts after one of these bytes
abbrev pub bad_later : List ℕ → Bool
bad_later [] = false
bad_later (b ∷ s) = eqb b (char "/") && bad_here s || bad_later s

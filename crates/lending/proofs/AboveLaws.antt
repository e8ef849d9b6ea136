-- A directory is the front of a path, and more follows.
use mathlib.Core.Path.{◌≡◌, refl, sym, ap, ◌∙◌}
use mathlib.Core.Bool.{Bool, false, ◌&&◌, and-false}
use mathlib.Core.List.{List, [], ◌∷◌}
use Prim.Native.Nat.{ℕ, ◌<◌, ◌≤◌}
use native.Mathlib.Omega.{arith}
use lib.Dec.{eqb, ltb}
use lib.ListN.{length}
use borrow.Author.Tests.{le-ltb}
use Rattle.std.specs.List.{starts_with}
use Rattle.lending.specs.Lending.{above}

-- where the path is longer, the test of its front decides
pub above_longer : (d p : List ℕ) → length d < length p → starts_with eqb p d ≡ above d p
unfolding above
above_longer [] [] h = absurd (omega arith)
above_longer [] (y ∷ p) h = refl
above_longer (x ∷ d) [] h = absurd (omega arith)
above_longer (x ∷ d) (y ∷ p) h = ap (λ (t : Bool). eqb x y && t) (above_longer d p (omega arith))

-- where it is not, the directory does not stand above it
not_above : (d p : List ℕ) → length p ≤ length d → above d p ≡ false
unfolding above
not_above [] [] h = refl
not_above [] (y ∷ p) h = absurd (omega arith)
not_above (x ∷ d) [] h = refl
not_above (x ∷ d) (y ∷ p) h = rw (not_above d p (omega arith)) (and-false (eqb x y))

pub above_no_longer : (d p : List ℕ) → length p ≤ length d → ltb (length d) (length p) ≡ above d p
above_no_longer d p h = le-ltb _ _ h ∙ sym (not_above d p h)

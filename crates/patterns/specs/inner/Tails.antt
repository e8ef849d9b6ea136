-- For engines: what is left of a pattern behind a run, and whether a place of it follows a byte `/`.
use Rattle.std.specs.Prelude.{ℕ, zero, suc, Bool, true, false, ◌&&◌, ◌||◌, List, eqb, get_or}
use Rattle.bytestrings.specs.Text.{char}
use Rattle.patterns.specs.Sharing.{inside}
use Rattle.patterns.specs.MatchTest.{one_then, run_then, tail_matches}
use Rattle.patterns.specs.declared.Mode.{Mode}

-- whether place i starts the whole pattern or follows a byte `/`; `after` says it of place 0
unfoldable pub after_at : Bool → List ℕ → ℕ → Bool
after_at after p zero = after
after_at after p (suc i) = eqb (get_or p i 0) (char "/")

-- a run within a component and then the pattern p
unfoldable pub within_then : Mode → List ℕ → List ℕ → Bool
within_then m p t = run_then (inside m) (tail_matches m false p) t

-- a run that ends after a `/`, or at once where `here`, and then the pattern p
unfoldable pub slash_then : Mode → Bool → List ℕ → List ℕ → Bool
slash_then m here p t = here && tail_matches m true p t || run_then (λ x. true) (one_then (λ x. eqb x (char "/")) (tail_matches m true p)) t

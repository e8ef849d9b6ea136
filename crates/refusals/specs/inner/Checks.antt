-- The checks of a call in their order, each a refusal's condition.
use Rattle.std.specs.Prelude.{ℕ, ◌≡◌, ◌⊎◌}

-- checks in order, each a refusal's number and its condition
pub data Checks : Type 1 where
  done : Checks
  check : ℕ → Type 0 → Checks → Checks

-- n is the number of the first check whose condition holds, or 0
abbrev pub FirstHolding : Checks → ℕ → Type 0
FirstHolding done n = n ≡ 0
FirstHolding (check k P cs) n = ((n ≡ k) × P) ⊎ ((P → ⊥) × FirstHolding cs n)

-- A number that is not 0.
use mathlib.Core.Path.{◌≡◌}
use Prim.Native.Nat.{ℕ, suc, ◌-◌}
use native.Mathlib.Omega.{arith}

-- a number that is not 0 follows another
pub one_after : (n : ℕ) → (n ≡ 0 → ⊥) → n ≡ suc (n - 1)
one_after n h = omega arith

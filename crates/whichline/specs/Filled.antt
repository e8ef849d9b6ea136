-- How far a buffer is filled.
use Rattle.std.specs.Prelude.{ℕ}

-- a buffer of so many bytes, and how many of them are filled
pub record Filled : Type 0 where
  pub room : ℕ
  pub at : ℕ

-- The lowest refusal of each question, by its checks in their order.
use mathlib.Core.Path.{◌≡◌, refl}
use mathlib.Core.List.{List}
use Prim.Native.Nat.{ℕ}
use Rattle.refusals.specs.Refusals.{FlagsHigh, LowestOrNone}
use Rattle.refusals.specs.inner.Checks.{done, check, FirstHolding}
use Rattle.refusals.proofs.LowestLaws.{Any, followed, holding_found, holding_first, holding_second, any_last, found_same}
use Rattle.attributenames.specs.Names.{BadName}
use Rattle.questionrefusals.specs.Conditions.{IgnoreRefuses, AttributeRefuses}
use Rattle.questionrefusals.specs.inner.Checks.{lent_checks, LentFirstHolding}

module _ (p r e b : List ℕ) (f n : ℕ) where
  pub ignore_found : FirstHolding (followed (lent_checks p r e b) (check 9 (FlagsHigh f) done)) n → LowestOrNone (IgnoreRefuses p r e b f) n
  unfolding IgnoreRefuses
  ignore_found t = holding_found (followed (lent_checks p r e b) (check 9 (FlagsHigh f) done)) 0 n refl t

  pub attribute_found : (name : List ℕ) → FirstHolding (followed (lent_checks p r e b) (check 6 (BadName name) (check 9 (FlagsHigh f) done))) n → LowestOrNone (AttributeRefuses p r e b name f) n
  unfolding AttributeRefuses IgnoreRefuses
  attribute_found name t =
      found_same (Any (followed (lent_checks p r e b) (check 6 (BadName name) (check 9 (FlagsHigh f) done)))) (AttributeRefuses p r e b name f) n
      (λ k. any_last (lent_checks p r e b) 6 (BadName name) (check 9 (FlagsHigh f) done) k)
      (holding_found (followed (lent_checks p r e b) (check 6 (BadName name) (check 9 (FlagsHigh f) done))) 0 n refl t)

  -- what was lent is refused already
  pub ignore_by_lent : LentFirstHolding p r e b n → (n ≡ 0 → ⊥) → LowestOrNone (IgnoreRefuses p r e b f) n
  unfolding LentFirstHolding
  ignore_by_lent h z = ignore_found (holding_first (lent_checks p r e b) (check 9 (FlagsHigh f) done) n h z)

  pub attribute_by_lent : (name : List ℕ) → LentFirstHolding p r e b n → (n ≡ 0 → ⊥) → LowestOrNone (AttributeRefuses p r e b name f) n
  unfolding LentFirstHolding
  attribute_by_lent name h z = attribute_found name (holding_first (lent_checks p r e b) (check 6 (BadName name) (check 9 (FlagsHigh f) done)) n h z)

  -- or it is not, and the checks after it decide
  pub ignore_after_lent : LentFirstHolding p r e b 0 → FirstHolding (check 9 (FlagsHigh f) done) n → LowestOrNone (IgnoreRefuses p r e b f) n
  unfolding LentFirstHolding
  ignore_after_lent h t = ignore_found (holding_second (lent_checks p r e b) (check 9 (FlagsHigh f) done) 0 0 n refl h refl t)

  pub attribute_after_lent : (name : List ℕ) → LentFirstHolding p r e b 0 → FirstHolding (check 6 (BadName name) (check 9 (FlagsHigh f) done)) n
      → LowestOrNone (AttributeRefuses p r e b name f) n
  unfolding LentFirstHolding
  attribute_after_lent name h t =
      attribute_found name (holding_second (lent_checks p r e b) (check 6 (BadName name) (check 9 (FlagsHigh f) done)) 0 0 n refl h refl t)

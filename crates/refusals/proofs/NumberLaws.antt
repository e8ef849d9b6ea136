-- Each refusal has its own number, and none has 0.
use Prim.Native.Nat.{ℕ}
use native.Mathlib.Omega.{arith}
use mathlib.Core.Bool.{cond}
use lib.Dec.{eqb}
use mathlib.Core.Path.{◌≡◌, refl, sym, ap, ◌∙◌}
use mathlib.Core.List.{List}
use mathlib.Core.Logic.{inl, inr}
use Rattle.refusals.specs.Refusals.{Lowest, MatcherRefuses}
use Rattle.refusals.specs.Numbers.{number_of}
use Rattle.refusals.specs.declared.refusal.Refusal.{Refusal}
use Rattle.refusals.specs.declared.refusal.Refusal.TheVariants.{BadPath, BadLists, RulesLong, RulesHoldZero, LineLong, BadName, TooLong, HoldsZero, FlagsHigh}

pub numbered : (r : Refusal) → number_of r ≡ 0 → ⊥
numbered BadPath e = absurd (omega (arith, e))
numbered BadLists e = absurd (omega (arith, e))
numbered RulesLong e = absurd (omega (arith, e))
numbered RulesHoldZero e = absurd (omega (arith, e))
numbered LineLong e = absurd (omega (arith, e))
numbered BadName e = absurd (omega (arith, e))
numbered TooLong e = absurd (omega (arith, e))
numbered HoldsZero e = absurd (omega (arith, e))
numbered FlagsHigh e = absurd (omega (arith, e))

-- the refusal of a number
abbrev pub refusal_of : ℕ → Refusal
refusal_of n =
    cond (eqb n 1) BadPath (cond (eqb n 2) BadLists (cond (eqb n 3) RulesLong (cond (eqb n 4) RulesHoldZero
    (cond (eqb n 5) LineLong (cond (eqb n 6) BadName (cond (eqb n 7) TooLong (cond (eqb n 8) HoldsZero FlagsHigh)))))))

pub refusal_of_number : (r : Refusal) → refusal_of (number_of r) ≡ r
refusal_of_number BadPath = refl
refusal_of_number BadLists = refl
refusal_of_number RulesLong = refl
refusal_of_number RulesHoldZero = refl
refusal_of_number LineLong = refl
refusal_of_number BadName = refl
refusal_of_number TooLong = refl
refusal_of_number HoldsZero = refl
refusal_of_number FlagsHigh = refl

pub number_one : (r s : Refusal) → number_of r ≡ number_of s → r ≡ s
number_one r s e = sym (refusal_of_number r) ∙ ap refusal_of e ∙ refusal_of_number s

-- what is the lowest holds
pub lowest_holds : (C : ℕ → Type 0) (n : ℕ) → Lowest C n → C n
unfolding Lowest
lowest_holds C n l = l.0

-- the matcher refuses by numbers of refusals alone
pub matcher_numbered : (p t : List ℕ) (f n : ℕ) → MatcherRefuses p t f n → (r : Refusal) × (number_of r ≡ n)
unfolding MatcherRefuses
matcher_numbered p t f n (inl h) = (TooLong, sym h.0)
matcher_numbered p t f n (inr (inl h)) = (HoldsZero, sym h.0)
matcher_numbered p t f n (inr (inr h)) = (FlagsHigh, sym h.0)

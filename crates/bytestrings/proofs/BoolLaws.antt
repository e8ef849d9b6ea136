-- What the result of a test means for its condition, and tests joined by and, or.
use mathlib.Core.Path.{◌≡◌, refl, sym, ap, ◌∙◌}
use mathlib.Core.Logic.{◌↔◌}
use mathlib.Core.Bool.{Bool, true, false, not, false≢true}
use Prim.Native.Nat.{ℕ}
use lib.Dec.{eqb}
use borrow.Author.Tests.{eqb-false, ne_eqb, not-true}

pub yes_iff : {X : Type 0} → X → (true ≡ true) ↔ X
yes_iff x = (λ e. x, λ h. refl)

pub no_iff : {X : Type 0} → (X → ⊥) → (false ≡ true) ↔ X
no_iff n = (λ e. absurd (false≢true e), λ h. absurd (n h))

pub not_if_false : {X : Type 0} {r : Bool} → ((r ≡ true) ↔ X) → r ≡ false → X → ⊥
not_if_false d e x = false≢true (sym e ∙ d.1 x)

pub differs : (a b : ℕ) → (not (eqb a b) ≡ true) ↔ (a ≡ b → ⊥)
differs a b = (λ e. eqb-false a b (not-true (eqb a b) e), λ n. ap not (ne_eqb a b n))

pub not_both : {b : Bool} → b ≡ true → b ≡ false → ⊥
not_both {b} e h = false≢true (sym h ∙ e)

-- Where no line of a list has an effect, a member of it has none.
use mathlib.Core.Path.{◌≡◌, ap, ◌∙◌}
use mathlib.Core.Logic.{⊎_elim}
use mathlib.Core.List.Memᴰ
use mathlib.Core.List.{List, [], ◌∷◌, Memᴰ}
use Rattle.std.specs.Prelude.{Option, None, Some}
use Prim.Native.Nat.{ℕ}
use native.Mathlib.Omega.{arith}
use Rattle.rulefiles.specs.RuleFiles.{Line}
use Rattle.rulefiles.specs.Decisions.{NoEffects}

pub none_some : {A : Type 0} {a : A} → None ≡ Some a → ⊥
none_some e = let z : ◌≡◌ {A = ℕ} 0 1 = cc in omega arith

pub none_member : {A : Type 0} (effect : Line → Option A) (ls : List Line) (l : Line) → NoEffects effect ls → Memᴰ l ls → effect l ≡ None
none_member effect [] l s m = absurd (Memᴰ.not-nil m)
none_member effect (x ∷ ls) l s m = ⊎_elim (λ e. ap effect e ∙ s.0) (λ r. none_member effect ls l s.1 r) (Memᴰ.cases_cons m)

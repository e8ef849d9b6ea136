-- The last decision over two lists of lines, one after the other.
use mathlib.Core.Path.{◌≡◌, refl, sym, ap, ◌∙◌}
use mathlib.Core.List.{List, [], ◌∷◌, ◌++◌}
use Rattle.std.specs.Prelude.{Option, None, Some}
use Rattle.rulefiles.specs.RuleFiles.{Line}
use Rattle.rulefiles.specs.Decisions.{decision_by, override, last_decision}

pub override_assoc : {A : Type 0} (a b c : Option A) → override (override a b) c ≡ override a (override b c)
override_assoc a b None = refl
override_assoc a b (Some x) = refl

pub override_none : {A : Type 0} (a : Option A) → override None a ≡ a
override_none None = refl
override_none (Some x) = refl

pub last_append : {A : Type 0} (effect : Line → Option A) (xs ys : List Line) → last_decision effect (xs ++ ys) ≡ override (last_decision effect xs) (last_decision effect ys)
last_append effect [] ys = sym (override_none (last_decision effect ys))
last_append effect (x ∷ xs) ys = ap (override (decision_by x (effect x))) (last_append effect xs ys)
    ∙ sym (override_assoc (decision_by x (effect x)) (last_decision effect xs) (last_decision effect ys))

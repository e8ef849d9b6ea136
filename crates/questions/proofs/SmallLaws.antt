-- The number of an accepted question's answer: no refusal's.
use Prim.Native.Nat.{ℕ, ◌≤◌}
use native.Mathlib.Omega.{arith}
use mathlib.Core.Bool.{Bool, true, false, cond}
use mathlib.Core.List.{List, [], ◌∷◌}
use Rattle.std.specs.Prelude.{Option, None, Some}
use lib.ListN.{length}
use Rattle.rulefiles.specs.RuleFiles.{ordered_lines}
use Rattle.rulefiles.specs.declared.Decision.{Decision}
use Rattle.entries.specs.Entries.{Entry}
use Rattle.ignorelines.specs.declared.Verdict.{Verdict}
use Rattle.attributelines.specs.declared.State.{State}
use Rattle.answers.proofs.CompleteLaws.{state-small, verdict-small}
use Rattle.verdicts.specs.Verdicts.{verdict, attribute_state, parents, ignores, judged, top_down}
use Rattle.questions.specs.Answers.{path_entry, folds, ignore_answer, attribute_answer}
use Rattle.verdicts.specs.Verdicts.{state_answer}

judged-small : (n : ℕ) (o : Option (Decision Verdict)) → (judged n o).number ≤ 4
judged-small n None = omega arith
judged-small n (Some d) = verdict-small d.what

pub top_down_small : (v : Entry → Option (Decision Verdict)) (ps : List Entry) (e : Entry) → (top_down v ps e).number ≤ 4
top_down_small v [] e = judged-small (length e.bytes) (v e)
top_down_small v (p ∷ ps) e = go (ignores (v p)) (judged-small (length p.bytes) (v p)) (top_down_small v ps e)
  where
    go : (b : Bool) → (judged (length p.bytes) (v p)).number ≤ 4 → (top_down v ps e).number ≤ 4 → (cond b (judged (length p.bytes) (v p)) (top_down v ps e)).number ≤ 4
    go true x y = x
    go false x y = y

pub state-answer-small : (o : Option (Decision State)) → (state_answer o).number ≤ 4
state-answer-small None = omega arith
state-answer-small (Some d) = state-small d.what

pub ignore_small : (path rules ends bases : List ℕ) (flags : ℕ) → (ignore_answer path rules ends bases flags).number ≤ 4
unfolding ignore_answer
ignore_small path rules ends bases flags = top_down_small (verdict (folds flags) (ordered_lines rules ends bases)) (parents path) (path_entry path flags)

pub attribute_small : (path rules ends bases name : List ℕ) (flags : ℕ) → (attribute_answer path rules ends bases name flags).number ≤ 4
unfolding attribute_answer
attribute_small path rules ends bases name flags = state-answer-small (attribute_state (folds flags) name (ordered_lines rules ends bases) (path_entry path flags))

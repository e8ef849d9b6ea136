-- Each answer of the two questions is as specs/Answers.antt has it.
use Prim.Native.Nat.{ℕ, ◌≤◌}
use mathlib.Core.Path.{◌≡◌, refl, ap, subst, ◌∙◌}
use Rattle.std.specs.Prelude.{Err}
use mathlib.Core.Logic.{◌↔◌}
use mathlib.Core.Bool.{Bool}
use mathlib.Core.List.{List}
use Rattle.refusals.specs.Refusals.{Lowest, Accepted, LowestOrNone}
use Rattle.questionrefusals.specs.Conditions.{IgnoreRefuses, AttributeRefuses}
use Rattle.refusals.proofs.LowestLaws.{lowest_one, lowest_refuses}
use Rattle.rulefiles.specs.RuleFiles.{ordered_lines}
use Rattle.refusals.specs.Flags.{flag_one, flag_two}
use Rattle.verdicts.specs.Verdicts.{verdict, attribute_state, parents, top_down}
use Rattle.questions.specs.Answers.{path_entry, folds, ignore_answer, attribute_answer, IgnoreAnswered, AttributeAnswered}
use Rattle.verdicts.specs.Verdicts.{state_answer}
use Rattle.answers.specs.Complete.{Complete, refusal, complete_ignore, complete_attribute}
use Rattle.refusals.specs.declared.refusal.Refusal.{Refusal}
use Rattle.refusals.specs.Numbers.{number_of}
use Rattle.refusals.proofs.NumberLaws.{numbered}
use Rattle.verdicts.proofs.VerdictLaws.{entry_of}
use Rattle.answers.proofs.CompleteLaws.{refusal_one, small_not_refused}
use Rattle.questions.proofs.SmallLaws.{top_down_small, state-answer-small}

-- the refusal that is answered is the lowest, and a question that is accepted is not refused
module _ (C : ℕ → Type 0) where
  refused_by : (k : ℕ) → Lowest C k → (n : ℕ) → (refusal k ≡ refusal n) ↔ Lowest C n
  refused_by k l n = (λ e. subst (Lowest C) (refusal_one k n e) l, λ h. ap refusal (lowest_one C k n l h))

  not_refused : (a : Complete) → a.number ≤ 4 → Accepted C → (n : ℕ) → (a ≡ refusal n) ↔ Lowest C n
  not_refused a small h n = (λ e. absurd (small_not_refused a n small e), λ l. absurd (lowest_refuses C n l h))

module _ (path rules ends bases : List ℕ) (flags : ℕ) where
  pub ignore_refused : (r : Refusal) → LowestOrNone (IgnoreRefuses path rules ends bases flags) (number_of r) → IgnoreAnswered path rules ends bases flags (complete_ignore (Err r))
  unfolding complete_ignore
  ignore_refused r f =
      let l = f.lowest (numbered r) in
      record {
        refused = refused_by (IgnoreRefuses path rules ends bases flags) (number_of r) l;
        accepted = λ a. absurd (lowest_refuses (IgnoreRefuses path rules ends bases flags) (number_of r) l a);
      }

  pub ignore_answered : (directory fold : Bool) (answer : Complete) → LowestOrNone (IgnoreRefuses path rules ends bases flags) 0
      → directory ≡ flag_one flags → fold ≡ flag_two flags
      → answer ≡ top_down (verdict fold (ordered_lines rules ends bases)) (parents path) (entry_of path directory) → IgnoreAnswered path rules ends bases flags answer
  unfolding ignore_answer path_entry folds
  ignore_answered directory fold answer f d g e =
      let h = f.accepted refl in
      let v = verdict fold (ordered_lines rules ends bases) in
      record {
        refused = not_refused (IgnoreRefuses path rules ends bases flags) answer (rw e (top_down_small v (parents path) (entry_of path directory))) h;
        accepted = λ a. e ∙ rw (d, g);
      }

module _ (path rules ends bases name : List ℕ) (flags : ℕ) where
  pub attribute_refused : (r : Refusal) → LowestOrNone (AttributeRefuses path rules ends bases name flags) (number_of r)
      → AttributeAnswered path rules ends bases name flags (complete_attribute (Err r))
  unfolding complete_attribute
  attribute_refused r f =
      let l = f.lowest (numbered r) in
      record {
        refused = refused_by (AttributeRefuses path rules ends bases name flags) (number_of r) l;
        accepted = λ a. absurd (lowest_refuses (AttributeRefuses path rules ends bases name flags) (number_of r) l a);
      }

  pub attribute_answered : (directory fold : Bool) (answer : Complete) → LowestOrNone (AttributeRefuses path rules ends bases name flags) 0
      → directory ≡ flag_one flags → fold ≡ flag_two flags
      → answer ≡ state_answer (attribute_state fold name (ordered_lines rules ends bases) (entry_of path directory)) → AttributeAnswered path rules ends bases name flags answer
  unfolding attribute_answer path_entry folds
  attribute_answered directory fold answer f d g e =
      let h = f.accepted refl in
      let last = attribute_state fold name (ordered_lines rules ends bases) (entry_of path directory) in
      record {
        refused = not_refused (AttributeRefuses path rules ends bases name flags) answer (rw e (state-answer-small last)) h;
        accepted = λ a. e ∙ rw (d, g);
      }

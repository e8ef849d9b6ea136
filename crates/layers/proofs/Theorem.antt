-- Demand 3 holds: the one theorem is `layers_compose`, at the end.
use Prim.Native.Nat.{ℕ}
use mathlib.Core.Path.{◌≡◌, sym, ap, ◌∙◌}
use mathlib.Core.Bool.{Bool}
use mathlib.Core.List.{List, ◌++◌}
use Rattle.rulefiles.specs.RuleFiles.{Line, ordered_lines}
use Rattle.rulefiles.proofs.DecisionLaws.{last_append}
use Rattle.refusals.specs.Refusals.{Accepted}
use Rattle.questionrefusals.specs.Conditions.{IgnoreRefuses, AttributeRefuses}
use Rattle.entries.specs.Entries.{Entry}
use Rattle.ignorelines.specs.IgnoreLines.{ignore_effect}
use Rattle.attributelines.specs.AttributeLines.{attribute_effect}
use Rattle.verdicts.specs.Verdicts.{verdict, attribute_state, parents, top_down}
use Rattle.questions.specs.Answers.{path_entry, folds, ignore_answer, attribute_answer}
use Rattle.verdicts.specs.Verdicts.{state_answer}
use Rattle.layers.specs.Blanking.{Choice, blanked}
use Rattle.layers.specs.Claim.{joined_verdict, joined_state, Cut, NoneDecidesVisited, NoneDecidesAttribute, Blanks, LayersCompose}
use Rattle.layers.proofs.CutLaws.{composes}
use Rattle.layers.proofs.TopDownLaws.{same_visited}
use Rattle.layers.proofs.SpaceLines.{ignore_space, attribute_space}
use Rattle.layers.proofs.Kept.{Alike, kept-answer}
use Rattle.layers.proofs.BlankFiles.{alike_rules}
use Rattle.layers.proofs.BlankRefusals.{accepted_same, accepted_rising, ignore_again, attribute_accepted, attribute_again}

-- the joined answers are the whole's
joined-verdict : (fold : Bool) (earlier later : List Line) (e : Entry) → verdict fold (earlier ++ later) e ≡ joined_verdict fold earlier later e
unfolding joined_verdict verdict
joined-verdict fold earlier later e = last_append (ignore_effect fold e) earlier later

joined-state : (fold : Bool) (name : List ℕ) (earlier later : List Line) (e : Entry) → attribute_state fold name (earlier ++ later) e ≡ joined_state fold name earlier later e
unfolding joined_state attribute_state
joined-state fold name earlier later e = last_append (attribute_effect fold e name) earlier later

-- What the two questions answer, by a cut and after blanking.

module _ (path rules ends bases name : List ℕ) (flags : ℕ) where
  ignore_cut : (earlier later : List Line) → ordered_lines rules ends bases ≡ earlier ++ later
      → ignore_answer path rules ends bases flags ≡ top_down (joined_verdict (folds flags) earlier later) (parents path) (path_entry path flags)
  unfolding ignore_answer
  ignore_cut earlier later h =
      ap (λ (ls : List Line). top_down (verdict (folds flags) ls) (parents path) (path_entry path flags)) h
      ∙ same_visited (joined_verdict (folds flags) earlier later) (verdict (folds flags) (earlier ++ later))
      (parents path) (path_entry path flags) (λ e m. joined-verdict (folds flags) earlier later e)

  attribute_cut : (earlier later : List Line) → ordered_lines rules ends bases ≡ earlier ++ later
      → attribute_answer path rules ends bases name flags ≡ state_answer (joined_state (folds flags) name earlier later (path_entry path flags))
  unfolding attribute_answer
  attribute_cut earlier later h =
      ap (λ (ls : List Line). state_answer (attribute_state (folds flags) name ls (path_entry path flags))) h
      ∙ ap state_answer (joined-state (folds flags) name earlier later (path_entry path flags))

  cut : (earlier later : List Line) → ordered_lines rules ends bases ≡ earlier ++ later → Cut path rules ends bases name flags earlier later
  cut earlier later h =
      record {
        of_entries = λ fold e. composes (ignore_effect fold e) (ordered_lines rules ends bases) earlier later h;
        of_attributes = λ fold e attribute. composes (attribute_effect fold e attribute) (ordered_lines rules ends bases) earlier later h;
        ignore_answers = λ answer a ok. a.accepted ok ∙ ignore_cut earlier later h;
        attribute_answers = λ answer a ok. a.accepted ok ∙ attribute_cut earlier later h;
      }

  -- the lines of the rule bytes and of the blanked ones
  alike : (chosen : Choice) → Accepted (IgnoreRefuses path rules ends bases flags) → Alike chosen (ordered_lines rules ends bases) (ordered_lines (blanked chosen rules ends bases) ends bases)
  alike chosen ok = alike_rules chosen rules ends bases (accepted_same path rules ends bases flags ok) (accepted_rising path rules ends bases flags ok)

  ignore_kept : (chosen : Choice) → Accepted (IgnoreRefuses path rules ends bases flags) → NoneDecidesVisited chosen path rules ends bases flags
      → ignore_answer path (blanked chosen rules ends bases) ends bases flags ≡ ignore_answer path rules ends bases flags
  unfolding ignore_answer NoneDecidesVisited verdict
  ignore_kept chosen ok none-decides =
      same_visited (verdict (folds flags) (ordered_lines rules ends bases)) (verdict (folds flags) (ordered_lines (blanked chosen rules ends bases) ends bases)) (parents path) (path_entry path flags)
      (λ e m. kept-answer (ignore_effect (folds flags) e) (ignore_space (folds flags) e) (alike chosen ok) (none-decides e m))

  attribute_kept : (chosen : Choice) → Accepted (AttributeRefuses path rules ends bases name flags) → NoneDecidesAttribute chosen path rules ends bases name flags
      → attribute_answer path (blanked chosen rules ends bases) ends bases name flags ≡ attribute_answer path rules ends bases name flags
  unfolding attribute_answer NoneDecidesAttribute attribute_state
  attribute_kept chosen ok none-decides =
      let e = path_entry path flags in
      ap state_answer (kept-answer (attribute_effect (folds flags) e name) (attribute_space (folds flags) e name) (alike chosen (attribute_accepted path rules ends bases flags name ok)) none-decides)

  blanks : (chosen : Choice) → Blanks path rules ends bases name flags chosen
  blanks chosen =
      record {
        ignore_accepted = λ ok none-decides. ignore_again path rules ends bases flags chosen ok;
        ignore_same = λ ok none-decides answer again a b. b.accepted (ignore_again path rules ends bases flags chosen ok) ∙ ignore_kept chosen ok none-decides ∙ sym (a.accepted ok);
        attribute_accepted = λ ok none-decides. attribute_again path rules ends bases flags chosen name ok;
        attribute_same = λ ok none-decides answer again a b. b.accepted (attribute_again path rules ends bases flags chosen name ok) ∙ attribute_kept chosen ok none-decides ∙ sym (a.accepted ok);
      }

pub layers_compose : (path rules ends bases name : List ℕ) (flags : ℕ) → LayersCompose path rules ends bases name flags
layers_compose path rules ends bases name flags = record { cuts = λ earlier later p. cut path rules ends bases name flags earlier later p.whole; blanking = blanks path rules ends bases name flags }

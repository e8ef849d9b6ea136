-- Demand 3, as one claim over both questions, every cut and every choice of overwritten lines. What the calls answer is what their contracts allow
-- (`IgnoreAnswered`, `AttributeAnswered`): the functions `ignore` and `attribute` of `questions` are proved to give such a complete answer, and
-- proofs/OneAnswer.antt that there is only one.
use Rattle.std.specs.Prelude.{ℕ, ◌≡◌, Bool, true, Option}
use mathlib.Core.List.{List, Memᴰ}
use Rattle.rulefiles.specs.RuleFiles.{Line, ordered_lines}
use Rattle.rulefiles.specs.declared.Decision.{Decision}
use Rattle.rulefiles.specs.Decisions.{override, Decides}
use Rattle.refusals.specs.Refusals.{Accepted}
use Rattle.questionrefusals.specs.Conditions.{IgnoreRefuses, AttributeRefuses}
use Rattle.entries.specs.Entries.{Entry}
use Rattle.ignorelines.specs.declared.Verdict.{Verdict}
use Rattle.ignorelines.specs.IgnoreLines.{ignore_effect}
use Rattle.attributelines.specs.AttributeLines.{attribute_effect}
use Rattle.attributelines.specs.declared.State.{State}
use Rattle.answers.specs.Complete.{Complete}
use Rattle.verdicts.specs.Verdicts.{verdict, attribute_state, parents, top_down, visited}
use Rattle.questions.specs.Answers.{path_entry, folds, IgnoreAnswered, AttributeAnswered}
use Rattle.verdicts.specs.Verdicts.{state_answer}
use Rattle.layers.specs.Parts.{Parted, Composes}
use Rattle.layers.specs.Blanking.{Choice, blanked}

-- the two parts' verdicts of an entry, joined
unfoldable pub joined_verdict : Bool → List Line → List Line → Entry → Option (Decision Verdict)
joined_verdict fold earlier later e = override (verdict fold earlier e) (verdict fold later e)

-- the two parts' states of an attribute, joined
unfoldable pub joined_state : Bool → List ℕ → List Line → List Line → Entry → Option (Decision State)
joined_state fold name earlier later e = override (attribute_state fold name earlier e) (attribute_state fold name later e)

-- what holds of a cut into an earlier and a later part
pub record Cut (path rules ends bases name : List ℕ) (flags : ℕ) (earlier later : List Line) : Type 0 where
  -- "For every directory or path looked at by itself": `last_decision` of this effect is its `verdict`
  pub of_entries : (fold : Bool) (e : Entry) → Composes (ignore_effect fold e) (ordered_lines rules ends bases) earlier later
  -- "and every attribute of it": of this one, its `attribute_state`
  pub of_attributes : (fold : Bool) (e : Entry) (attribute : List ℕ) → Composes (attribute_effect fold e attribute) (ordered_lines rules ends bases) earlier later
  -- "every accepted question is answered from these joined answers by demand 2's rules": "Put the joined answer in place of each entry's
  -- verdict: the rule from the top down then gives what the ignore question answers."
  pub ignore_answers : (answer : Complete) → IgnoreAnswered path rules ends bases flags answer
      → Accepted (IgnoreRefuses path rules ends bases flags)
      → answer ≡ top_down (joined_verdict (folds flags) earlier later) (parents path) (path_entry path flags)
  -- "The attribute question answers the path's joined answer itself."
  pub attribute_answers : (answer : Complete) → AttributeAnswered path rules ends bases name flags answer
      → Accepted (AttributeRefuses path rules ends bases name flags)
      → answer ≡ state_answer (joined_state (folds flags) name earlier later (path_entry path flags))

-- none of the chosen lines decides an entry that is visited for the ignore question
unfoldable pub NoneDecidesVisited : Choice → List ℕ → List ℕ → List ℕ → List ℕ → ℕ → Type 0
NoneDecidesVisited chosen path rules ends bases flags =
    (e : Entry) → Memᴰ e (visited (verdict (folds flags) (ordered_lines rules ends bases)) (parents path) (path_entry path flags))
    → (l : Line) → Decides (ignore_effect (folds flags) e) (ordered_lines rules ends bases) l
    → chosen.line l.file l.number ≡ true → ⊥

-- none of the chosen lines decides the attribute of the attribute question
unfoldable pub NoneDecidesAttribute : Choice → List ℕ → List ℕ → List ℕ → List ℕ → List ℕ → ℕ → Type 0
NoneDecidesAttribute chosen path rules ends bases name flags =
    (l : Line) → Decides (attribute_effect (folds flags) (path_entry path flags) name) (ordered_lines rules ends bases) l
    → chosen.line l.file l.number ≡ true → ⊥

-- "whichever lines are overwritten with spaces, any number at once: if none of them decides .., that question asked again is accepted and has the
-- same complete answer, line number included". "Asked again means with the same path, flags, lists and attribute name, on the overwritten bytes."
pub record Blanks (path rules ends bases name : List ℕ) (flags : ℕ) (chosen : Choice) : Type 0 where
  pub ignore_accepted : Accepted (IgnoreRefuses path rules ends bases flags) → NoneDecidesVisited chosen path rules ends bases flags
      → Accepted (IgnoreRefuses path (blanked chosen rules ends bases) ends bases flags)
  pub ignore_same : Accepted (IgnoreRefuses path rules ends bases flags) → NoneDecidesVisited chosen path rules ends bases flags
      → (answer again : Complete) → IgnoreAnswered path rules ends bases flags answer
      → IgnoreAnswered path (blanked chosen rules ends bases) ends bases flags again → again ≡ answer
  pub attribute_accepted : Accepted (AttributeRefuses path rules ends bases name flags) → NoneDecidesAttribute chosen path rules ends bases name flags
      → Accepted (AttributeRefuses path (blanked chosen rules ends bases) ends bases name flags)
  pub attribute_same : Accepted (AttributeRefuses path rules ends bases name flags) → NoneDecidesAttribute chosen path rules ends bases name flags
      → (answer again : Complete) → AttributeAnswered path rules ends bases name flags answer
      → AttributeAnswered path (blanked chosen rules ends bases) ends bases name flags again → again ≡ answer

-- Demand 3 of one question's inputs: every cut, every choice
pub record LayersCompose (path rules ends bases name : List ℕ) (flags : ℕ) : Type 0 where
  pub cuts : (earlier later : List Line) → Parted (ordered_lines rules ends bases) earlier later → Cut path rules ends bases name flags earlier later
  pub blanking : (chosen : Choice) → Blanks path rules ends bases name flags chosen

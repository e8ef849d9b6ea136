-- When each question gives which answer: refused, or by what the lines decide.
use Rattle.std.specs.Prelude.{ℕ, ◌≡◌, ◌↔◌, Bool, List}
use Rattle.rulefiles.specs.RuleFiles.{ordered_lines}
use Rattle.refusals.specs.Refusals.{Lowest, Accepted}
use Rattle.questionrefusals.specs.Conditions.{IgnoreRefuses, AttributeRefuses}
use Rattle.refusals.specs.Flags.{flag_one, flag_two}
use Rattle.entries.specs.Entries.{Entry}
use Rattle.answers.specs.Complete.{Complete, refusal}
use Rattle.verdicts.specs.Verdicts.{verdict, attribute_state, parents, top_down, state_answer}

-- "for the questions 1 = directory": the path as an entry
unfoldable pub path_entry : List ℕ → ℕ → Entry
path_entry path flags = record { bytes = path; directory = flag_one flags }

-- "2 = fold case"
unfoldable pub folds : ℕ → Bool
folds flags = flag_two flags

-- the answer of an accepted ignore question
unfoldable pub ignore_answer : List ℕ → List ℕ → List ℕ → List ℕ → ℕ → Complete
ignore_answer path rules ends bases flags =
    top_down (verdict (folds flags) (ordered_lines rules ends bases)) (parents path) (path_entry path flags)

-- the answer of an accepted attribute question, "with no rule about parents": of the path alone
unfoldable pub attribute_answer : List ℕ → List ℕ → List ℕ → List ℕ → List ℕ → ℕ → Complete
attribute_answer path rules ends bases name flags =
    state_answer (attribute_state (folds flags) name (ordered_lines rules ends bases) (path_entry path flags))

-- Demand 1: "Each refusal in the table is given exactly when its condition holds, lowest number first, and returns that number only."
-- Demand 2: an accepted question has its answer by the rules
pub record IgnoreAnswered (path rules ends bases : List ℕ) (flags : ℕ) (answer : Complete) : Type 0 where
  pub refused : (n : ℕ) → (answer ≡ refusal n) ↔ Lowest (IgnoreRefuses path rules ends bases flags) n
  pub accepted : Accepted (IgnoreRefuses path rules ends bases flags) → answer ≡ ignore_answer path rules ends bases flags

-- the same of the attribute question
pub record AttributeAnswered (path rules ends bases name : List ℕ) (flags : ℕ) (answer : Complete) : Type 0 where
  pub refused : (n : ℕ) → (answer ≡ refusal n) ↔ Lowest (AttributeRefuses path rules ends bases name flags) n
  pub accepted : Accepted (AttributeRefuses path rules ends bases name flags) → answer ≡ attribute_answer path rules ends bases name flags

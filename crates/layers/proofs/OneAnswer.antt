-- What each question answers is one answer: two answers that its contract allows are the same.
use Prim.Native.Nat.{ℕ}
use mathlib.Core.Path.{◌≡◌}
use mathlib.Core.List.{List}
use Rattle.questionrefusals.specs.Conditions.{IgnoreRefuses, AttributeRefuses}
use Rattle.answers.specs.Complete.{IgnoreAnswer, AttributeAnswer, complete_ignore, complete_attribute}
use Rattle.questions.specs.Answers.{ignore_answer, attribute_answer, IgnoreAnswered, AttributeAnswered}
use Rattle.answers.proofs.CompleteLaws.{one_complete, ignore_once, attribute_once}

pub one_ignore_answer : (path rules ends bases : List ℕ) (flags : ℕ) (a b : IgnoreAnswer)
    → IgnoreAnswered path rules ends bases flags (complete_ignore a) → IgnoreAnswered path rules ends bases flags (complete_ignore b) → a ≡ b
one_ignore_answer path rules ends bases flags a b p q =
    ignore_once a b
    (one_complete (IgnoreRefuses path rules ends bases flags) (ignore_answer path rules ends bases flags) (complete_ignore a) (complete_ignore b) p.refused q.refused p.accepted q.accepted)

pub one_attribute_answer : (path rules ends bases name : List ℕ) (flags : ℕ) (a b : AttributeAnswer)
    → AttributeAnswered path rules ends bases name flags (complete_attribute a) → AttributeAnswered path rules ends bases name flags (complete_attribute b) → a ≡ b
one_attribute_answer path rules ends bases name flags a b p q =
    attribute_once a b
    (one_complete (AttributeRefuses path rules ends bases name flags) (attribute_answer path rules ends bases name flags) (complete_attribute a) (complete_attribute b) p.refused q.refused
    p.accepted q.accepted)

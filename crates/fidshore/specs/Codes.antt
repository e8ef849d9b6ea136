-- The C interface. Document 01, "How rule files are lent": what the C loader gets from each call, as one number. Which number each answer has: wildmatch
-- Answers.code_of, answers Complete.
use Rattle.std.specs.Prelude.{ℕ, ◌≡◌, List, [], ◌∷◌, Result, length}
use Rattle.wildmatch.specs.Answers.{Answered, code_of}
use Rattle.wildmatch.specs.declared.Answer.{Answer}
use Rattle.refusals.specs.declared.refusal.Refusal.{Refusal}
use Rattle.answers.specs.Complete.{Complete}
use Rattle.questions.specs.Answers.{IgnoreAnswered, AttributeAnswered}

-- the code of the matcher's answer
pub record MatchCode (pattern text : List ℕ) (flags code : ℕ) : Type 0 where
  pub answer : Result Answer Refusal
  pub answered : Answered pattern text flags answer
  pub coded : code ≡ code_of answer

-- the number of the ignore question's answer "over one file of base 0": all rule bytes are that file
pub record IgnoreCode (path rules : List ℕ) (flags code : ℕ) : Type 0 where
  pub answer : Complete
  pub answered : IgnoreAnswered path rules (length rules ∷ []) (0 ∷ []) flags answer
  pub coded : code ≡ answer.number

-- the number of the attribute question's answer over one file of base 0
pub record AttributeCode (path rules name : List ℕ) (flags code : ℕ) : Type 0 where
  pub answer : Complete
  pub answered : AttributeAnswered path rules (length rules ∷ []) (0 ∷ []) name flags answer
  pub coded : code ≡ answer.number

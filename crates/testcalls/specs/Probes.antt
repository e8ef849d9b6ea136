-- What the outside tests get of the matcher and of a question: the complete answer's number, and its values at the front of a list that
-- they lend; and what they get of a class name.
use Rattle.std.specs.Prelude.{ℕ, ◌≡◌, cond, List, [], ◌∷◌, ◌++◌, leb, length, drop, Option, None, Some, Result}
use Rattle.classnames.specs.Names.{named}
use Rattle.brokenplaces.specs.BrokenPlaces.{broken_at}
use Rattle.wildmatch.specs.Answers.{Answered, code_of, values_of}
use Rattle.wildmatch.specs.declared.Answer.{Answer}
use Rattle.answers.specs.Complete.{Complete}
use Rattle.refusals.specs.declared.refusal.Refusal.{Refusal}
use Rattle.questions.specs.Answers.{IgnoreAnswered, AttributeAnswered}

-- the list with the values in place of its first entries; as it was where it is too short for them
unfoldable pub put : List ℕ → List ℕ → List ℕ
put values held = cond (leb (length values) (length held)) (values ++ drop (length values) held) held

-- of the matcher: the number, and the list that was lent, before and after
pub record MatchProbed (pattern text : List ℕ) (flags number : ℕ) (before after : List ℕ) : Type 0 where
  pub answer : Result Answer Refusal
  pub answered : Answered pattern text flags answer
  pub numbered : number ≡ code_of answer
  pub written : after ≡ put (values_of answer) before

-- the place where a pattern is broken, if there is one
unfoldable pub places : Option ℕ → List ℕ
places None = []
places (Some place) = place ∷ []

-- of where any bytes as a pattern are broken: how many places
pub record BrokenProbed (pattern : List ℕ) (number : ℕ) (before after : List ℕ) : Type 0 where
  pub numbered : number ≡ length (places (broken_at pattern))
  pub written : after ≡ put (places (broken_at pattern)) before

-- of the number of a class name and a byte: 1 where the name lists the byte, else 0
unfoldable pub named_probed : ℕ → ℕ → ℕ
named_probed k x = cond (named k x) 1 0

-- of the ignore question: the number, and the list that was lent, before and after
pub record IgnoreProbed (path rules ends bases : List ℕ) (flags number : ℕ) (before after : List ℕ) : Type 0 where
  pub answer : Complete
  pub answered : IgnoreAnswered path rules ends bases flags answer
  pub numbered : number ≡ answer.number
  pub written : after ≡ put answer.values before

-- of the attribute question
pub record AttributeProbed (path rules ends bases name : List ℕ) (flags number : ℕ) (before after : List ℕ) : Type 0 where
  pub answer : Complete
  pub answered : AttributeAnswered path rules ends bases name flags answer
  pub numbered : number ≡ answer.number
  pub written : after ≡ put answer.values before

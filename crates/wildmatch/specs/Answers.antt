-- What the matcher answers, refusals included, and the papers' number and values for each answer.
use Rattle.std.specs.Prelude.{ℕ, ◌+◌, ◌≡◌, ◌↔◌, List, [], ◌∷◌, None, Some, Result, Ok, Err}
use Rattle.refusals.specs.Flags.{flag_one, flag_two}
use Rattle.refusals.specs.Refusals.{Lowest, Accepted, MatcherRefuses}
use Rattle.refusals.specs.declared.refusal.Refusal.{Refusal}
use Rattle.refusals.specs.Numbers.{number_of}
use Rattle.brokenplaces.specs.BrokenPlaces.{broken_at}
use Rattle.patterns.specs.Sharing.{Matches}
use Rattle.patterns.specs.declared.Mode.{Mode}
use Rattle.wildmatch.specs.declared.Answer.{Answer}
use Rattle.wildmatch.specs.declared.Answer.TheVariants.{Unmatched, Matched, Broken}

-- "Flags are one number: for the matcher 1 = path mode, 2 = fold case"
unfoldable pub mode_of : ℕ → Mode
mode_of flags = record { path = flag_one flags; fold = flag_two flags }

-- When a call that is accepted gives each answer, in any mode. 01: "it matches exactly when the text is the joining, in order, of what its
-- items may take". 02, R-14: "answers match, no match or broken, with the place"; no match is neither of the others.
unfoldable pub Due : Mode → List ℕ → List ℕ → Answer → Type 0
Due mode pattern text Unmatched = (broken_at pattern ≡ None) × (Matches mode pattern text → ⊥)
Due mode pattern text Matched = Matches mode pattern text
Due mode pattern text (Broken place) = broken_at pattern ≡ Some place

-- When a call gives each answer, the flags asking for the mode: refusals first. Demand 1: "Each refusal in the table is given exactly when
-- its condition holds, lowest number first, and returns that number only."
unfoldable pub Given : List ℕ → List ℕ → ℕ → Result Answer Refusal → Type 0
Given pattern text flags (Ok answer) = Accepted (MatcherRefuses pattern text flags) × Due (mode_of flags) pattern text answer
Given pattern text flags (Err refusal) = Lowest (MatcherRefuses pattern text flags) (number_of refusal)

-- whatever a is: it is the answer exactly when it is given
unfoldable pub Answered : List ℕ → List ℕ → ℕ → Result Answer Refusal → Type 0
Answered pattern text flags answer = (a : Result Answer Refusal) → (answer ≡ a) ↔ Given pattern text flags a

-- the number of each answer. "C results: matcher 0 or 1; .. a refusal is 16 plus its number"; R-14: "The matcher's C code 2 means broken,
-- without the place."
unfoldable pub code_of : Result Answer Refusal → ℕ
code_of (Ok Unmatched) = 0
code_of (Ok Matched) = 1
code_of (Ok (Broken place)) = 2
code_of (Err refusal) = 16 + number_of refusal

-- the values that come with the number
unfoldable pub values_of : Result Answer Refusal → List ℕ
values_of (Ok Unmatched) = []
values_of (Ok Matched) = []
values_of (Ok (Broken place)) = place ∷ []
values_of (Err refusal) = []

-- Document 01: the line that decides, for both questions. A line has an effect (our word) on an entry, or on an attribute of it, where it applies and
-- matches (and names the attribute): 01 then says that the line "says something" of it, and "no line spoke" where none has an effect.
use Rattle.std.specs.Prelude.{ℕ, ◌≡◌, List, [], ◌∷◌, ◌++◌, Option, None, Some}
use Rattle.rulefiles.specs.declared.Place.{Place}
-- "The file and line that decided", as demand 2 asks, beside what was decided
pub use Rattle.rulefiles.specs.declared.Decision.{Decision}
use Rattle.rulefiles.specs.RuleFiles.{Line}

-- the place of a line, by its file's number and its own
abbrev pub place_at : ℕ → ℕ → Place
place_at file number = record { file = file; line = number }

-- the same of a line
unfoldable pub place_of : Line → Place
place_of l = record { file = l.file; line = l.number }

-- the decision of a line with this effect, if it has one
abbrev pub decision_by : {A : Type 0} → Line → Option A → Option (Decision A)
decision_by l None = None
decision_by l (Some a) = Some (record { what = a; place = place_of l })

-- the later overrides the earlier. Demand 3: the later answer "if that says anything, else the earlier", 01's joined answer
abbrev pub override : {A : Type 0} → Option A → Option A → Option A
override earlier None = earlier
override earlier (Some a) = Some a

-- "the last .. line" that has an effect decides; `effect` is the effect of each line
abbrev pub last_decision : {A : Type 0} → (Line → Option A) → List Line → Option (Decision A)
last_decision effect [] = None
last_decision effect (l ∷ ls) = override (decision_by l (effect l)) (last_decision effect ls)

-- a line has an effect
unfoldable pub HasEffect : {A : Type 0} → (Line → Option A) → Line → Type 0
HasEffect {A} effect l = (a : A) × (effect l ≡ Some a)

-- none of these lines has one
abbrev pub NoEffects : {A : Type 0} → (Line → Option A) → List Line → Type 0
NoEffects effect [] = Unit {0}
NoEffects effect (l ∷ ls) = (effect l ≡ None) × NoEffects effect ls

-- 01's *decides*: "A line decides .. if the rules above take the answer from that line": it has an effect, and no later line has one.
-- (proofs/DecisionMeaning.antt: the last decision is the one of the line that decides.)
pub record Decides {A : Type 0} (effect : Line → Option A) (lines : List Line) (l : Line) : Type 0 where
  pub earlier : List Line
  pub later : List Line
  pub stands : lines ≡ earlier ++ l ∷ later
  pub has_effect : HasEffect effect l
  pub none_later : NoEffects effect later

-- The *complete answer* of a question, 01's term: its number and values for each case of the two answer types.
use Rattle.std.specs.Prelude.{ℕ, ◌+◌, List, [], ◌∷◌, ◌++◌, Option, None, Some, Result, Ok, Err}
use Rattle.rulefiles.specs.declared.Place.{Place}
use Rattle.ignorelines.specs.declared.Verdict.{Verdict}
use Rattle.ignorelines.specs.declared.Verdict.TheVariants.{Ignored, Reincluded}
use Rattle.attributelines.specs.declared.State.{State}
use Rattle.attributelines.specs.declared.State.TheVariants.{Set, Unset, Value, Unspecified}
use Rattle.refusals.specs.declared.refusal.Refusal.{Refusal}
use Rattle.refusals.specs.Numbers.{number_of}
use Rattle.rulefiles.specs.declared.Decision.{Decision}
use Rattle.answers.specs.declared.DecidedEntry.{DecidedEntry}

-- "The complete answer is all that the call returns": its number, as "C results" give it, and its values, "for ignore the verdict, entry length,
-- file and line; for an attribute the state, a value's start and length, file and line". The values stand in that order, those that there are
pub record Complete : Type 0 where
  pub number : ℕ
  pub values : List ℕ

-- no line decided: 01's "0 nothing said"; "nothing said gives no numbers", "or says that no line spoke"
abbrev pub undecided : Complete
undecided = record { number = 0; values = [] }

-- "a refusal is 16 plus its number"; "A refusal carries its number and nothing else."
abbrev pub refusal : ℕ → Complete
refusal n = record { number = 16 + n; values = [] }

-- the file and the line
abbrev pub place_values : Place → List ℕ
place_values p = p.file ∷ p.line ∷ []

-- "1 ignored, 2 re-included"
abbrev pub verdict_number : Verdict → ℕ
verdict_number Ignored = 1
verdict_number Reincluded = 2

-- the verdict of an entry of n bytes: "the answer gives its length, file and line"
abbrev pub decided : Verdict → ℕ → Place → Complete
decided v n p = record { number = verdict_number v; values = n ∷ place_values p }

-- "1 set, 2 unset, 3 value, 4 unspecified by a line"
unfoldable pub state_number : State → ℕ
state_number Set = 1
state_number Unset = 2
state_number (Value v) = 3
state_number Unspecified = 4

-- "a value being its start and length in the rule bytes"
unfoldable pub state_values : State → List ℕ
state_values Set = []
state_values Unset = []
state_values (Value v) = v.start ∷ v.length ∷ []
state_values Unspecified = []

-- "The answer holds the state, .. with the file and line"
abbrev pub stated : State → Place → Complete
stated s p = record { number = state_number s; values = state_values s ++ place_values p }

-- an answer of the ignore question: a refusal, or the entry that was decided, if one was
abbrev pub IgnoreAnswer : Type 0
IgnoreAnswer = Result (Option DecidedEntry) Refusal

-- of the attribute question: a refusal, or the state that was decided, if a line spoke
abbrev pub AttributeAnswer : Type 0
AttributeAnswer = Result (Option (Decision State)) Refusal

-- what each answer of the ignore question is
unfoldable pub complete_ignore : IgnoreAnswer → Complete
complete_ignore (Ok None) = undecided
complete_ignore (Ok (Some e)) = decided e.decision.what e.length e.decision.place
complete_ignore (Err r) = refusal (number_of r)

-- what each answer of the attribute question is
unfoldable pub complete_attribute : AttributeAnswer → Complete
complete_attribute (Ok None) = undecided
complete_attribute (Ok (Some d)) = stated d.what d.place
complete_attribute (Err r) = refusal (number_of r)

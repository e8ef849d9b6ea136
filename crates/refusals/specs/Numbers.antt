-- Document 01, "When a question is turned away": the table's first column, the number of each refusal.
use Rattle.std.specs.Prelude.{ℕ, Result, Ok, Err}
use Rattle.refusals.specs.declared.refusal.Refusal.{Refusal}
use Rattle.refusals.specs.declared.refusal.Refusal.TheVariants.{BadPath, BadLists, RulesLong, RulesHoldZero, LineLong, BadName, TooLong, HoldsZero, FlagsHigh}

-- the number of a refusal
abbrev pub number_of : Refusal → ℕ
number_of BadPath = 1
number_of BadLists = 2
number_of RulesLong = 3
number_of RulesHoldZero = 4
number_of LineLong = 5
number_of BadName = 6
number_of TooLong = 7
number_of HoldsZero = 8
number_of FlagsHigh = 9

-- what the checks of a call find, as a number: the refusal's, or 0 where the call is accepted
abbrev pub found_number : Result Unit Refusal → ℕ
found_number (Ok u) = 0
found_number (Err refusal) = number_of refusal

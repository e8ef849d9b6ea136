-- What the functions of the program answer: how rows are run and counted.
use Rattle.std.specs.Prelude.{ℕ, ◌-◌, ◌≤◌, ◌≡◌, List, length, get_or, Result, IfOk}
use Rattle.testtables.specs.declared.row.Ran.{Ran}
use Rattle.testtables.specs.declared.row.RowError.{RowError}
use Rattle.testtables.specs.declared.tally.Tally.{Tally}

-- where the last file ends; 0 where there is none
abbrev pub last_end : List ℕ → ℕ
last_end ends = get_or ends (length ends - 1) 0

-- a row that was run has so many answers, and no more of them differ
abbrev pub Answers : ℕ → Result Ran RowError → Type 0
Answers n outcome = IfOk outcome (λ ran. (ran.answers ≡ n) × (ran.differ ≤ n))

-- nothing is counted yet
abbrev pub nothing : Tally
nothing = record { rows = 0; answers = 0; differ = 0; malformed = 0; section_rows = 0; section_passed = 0 }

-- what was counted before still is
abbrev pub Grown : Tally → Tally → Type 0
Grown before after =
    (before.rows ≤ after.rows) × (before.answers ≤ after.answers) × (before.differ ≤ after.differ) × (before.malformed ≤ after.malformed)

-- How the lines are read one after another.
use Rattle.std.specs.Prelude.{ℕ, suc, ◌+◌, Bool, cond, List, [], ◌∷◌, length, drop, Option, None, Some}
use Rattle.rulefiles.specs.RuleFiles.{Line, split, bom_length}
use Rattle.rulefiles.specs.declared.Decision.{Decision}
use Rattle.rulefiles.specs.Decisions.{override}
use Rattle.entries.specs.Entries.{Entry, applies, Subject, subject_of}
use Rattle.ignorelines.specs.declared.Verdict.{Verdict}
use Rattle.ignorelines.specs.IgnoreLines.{line_effect}
use Rattle.attributelines.specs.AttributeLines.{line_state}
use Rattle.attributelines.specs.declared.State.{State}
use Rattle.answers.specs.declared.DecidedEntry.{DecidedEntry}
use Rattle.verdicts.specs.Verdicts.{is_ignored}

-- the decision of a line with this number
abbrev pub decision_at : {A : Type 0} → ℕ → ℕ → Option A → Option (Decision A)
decision_at file line None = None
decision_at file line (Some a) = Some (record { what = a; place = record { file = file; line = line } })

-- the last decision from one line of a file on; `effect` is by the line's start and bytes
abbrev pub last_in : {A : Type 0} → (ℕ → List ℕ → Option A) → ℕ → ℕ → ℕ → List (List ℕ) → Option (Decision A)
last_in effect file line at [] = None
last_in effect file line at (l ∷ ls) = override (decision_at file line (effect at l)) (last_in effect file (suc line) (at + length l + 1) ls)

-- the effect of an ignore line at a place, whatever the place
unfoldable pub ignore_at : Subject → ℕ → List ℕ → Option Verdict
ignore_at subject at bytes = line_effect subject bytes

-- the effect of an attribute line at a place
unfoldable pub attribute_at : Subject → List ℕ → ℕ → List ℕ → Option State
attribute_at subject attribute at bytes = line_state subject attribute at bytes

-- the effect of a line on an entry, if its file applies, by what the line says of the subject: by its start and its bytes
unfoldable pub effect_on : {A : Type 0} → (Subject → ℕ → List ℕ → Option A) → Bool → Entry → Line → Option A
effect_on says fold e l = cond (applies l.base e) (says (subject_of fold l.base e) l.start l.bytes) None

-- where a file's lines start, after its BOM: the file starts at `start` of the rules up to its end
unfoldable pub content_start : List ℕ → ℕ → ℕ
content_start upto start = start + bom_length (drop start upto)

-- the last decision in a file
unfoldable pub last_in_file : {A : Type 0} → (ℕ → List ℕ → Option A) → ℕ → List ℕ → ℕ → Option (Decision A)
last_in_file effect file upto start = last_in effect file 1 (content_start upto start) (split (drop (content_start upto start) upto))

-- the answer of an entry of n bytes for those below it, by what is decided of it: where its verdict is "ignored"
abbrev pub ignored_at : ℕ → Option (Decision Verdict) → Option DecidedEntry
ignored_at n None = None
ignored_at n (Some d) = cond (is_ignored d.what) (Some (record { length = n; decision = d })) None

-- the answer of the first ignored entry; of two, the one before stands
abbrev pub first_ignored : (Entry → Option (Decision Verdict)) → List Entry → Option DecidedEntry
first_ignored v [] = None
first_ignored v (p ∷ ps) = override (first_ignored v ps) (ignored_at (length p.bytes) (v p))

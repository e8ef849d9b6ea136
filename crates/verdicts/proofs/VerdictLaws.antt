-- What the lines of all files decide of an entry, file by file.
use Prim.Native.Nat.{ℕ}
use mathlib.Core.Path.{◌≡◌, refl, sym, ap, ◌∙◌}
use mathlib.Core.Bool.{Bool, true, false, cond}
use mathlib.Core.List.{List}
use Rattle.std.specs.Prelude.{Option, None, Some, option_and_then}
use lib.Dec.{ltb}
use lib.ListN.{length, take, drop}
use Rattle.bytestrings.proofs.SliceLaws.{from, from-drop}
use Rattle.rulefiles.specs.RuleFiles.{Line, lines_of, lines_of_all, files_from, files, ordered_lines}
use Rattle.rulefiles.specs.Decisions.{override, last_decision}
use Rattle.rulefiles.proofs.DecisionLaws.{override_none}
use Rattle.entries.specs.Entries.{Entry, applies, Subject, against, component_start, subject_of, in_file}
use Rattle.entries.proofs.SubjectLaws.{subject-whole, in_file-subject}
use Rattle.ignorelines.specs.IgnoreLines.{ignore_effect}
use Rattle.attributelines.specs.AttributeLines.{attribute_effect}
use Rattle.verdicts.specs.Verdicts.{verdict, attribute_state}
use Rattle.verdicts.specs.inner.Scan.{ignore_at, attribute_at, effect_on, last_in_file}
use Rattle.verdicts.proofs.FileLaws.{file_at, file-decided, file_none}

-- the entry that the code looks at
abbrev pub entry_of : List ℕ → Bool → Entry
entry_of bytes directory = record { bytes = bytes; directory = directory }

-- what the lines of a file are matched against, as the code cuts it out of the entry
pub subject_from : (base at : ℕ) (bytes : List ℕ) (directory fold : Bool) → at ≡ component_start bytes
    → subject_of fold base (entry_of bytes directory) ≡ against (from base bytes) (from at bytes) directory fold
unfolding subject_of
subject_from base at bytes directory fold e =
    rw (from-drop base bytes) (ap (λ (s : Subject). record s { rest = drop base bytes }) (sym (subject-whole fold directory bytes at e)))

-- what a file's lines are matched against differs from the whole entry in its rest alone
pub with_rest : (base : ℕ) (w s : Subject) → Some s ≡ in_file base w → Some (against s.rest w.component w.directory w.fold) ≡ in_file base w
unfolding in_file
with_rest base w s q = ap rest_of q ∙ go (ltb base (length w.rest))
  where
    rest_of : Option Subject → Option Subject
    rest_of None = None
    rest_of (Some t) = Some (against t.rest w.component w.directory w.fold)

    go : (b : Bool) → rest_of (cond b (Some (against (drop base w.rest) w.component w.directory w.fold)) None) ≡ cond b (Some (against (drop base w.rest) w.component w.directory w.fold)) None
    go true = refl
    go false = refl

-- what the lines decide of an entry, by what a line says of the subject: by its start and its bytes
module _ {A : Type 0} (says : Subject → ℕ → List ℕ → Option A) (fold : Bool) (e : Entry) where
  -- all files, before the first
  pub lines_begin : (rules ends bases : List ℕ)
      → last_decision (effect_on says fold e) (ordered_lines rules ends bases) ≡ override None (last_decision (effect_on says fold e) (lines_of_all (files_from 0 0 rules ends bases)))
  unfolding ordered_lines files
  lines_begin rules ends bases = sym (override_none (last_decision (effect_on says fold e) (lines_of_all (files_from 0 0 rules ends bases))))

  -- a file, if it applies
  applied : (b : Bool) (s : Subject) (o : Option Subject) (f : Subject → Option A) → o ≡ cond b (Some s) None → cond b (f s) None ≡ option_and_then f o
  applied true s o f q = rw q refl
  applied false s o f q = rw q refl

  pub file-applies : (rules upto : List ℕ) (k start end base : ℕ) (s : Subject) → Some s ≡ in_file base (subject_of fold 0 e) → upto ≡ take end rules
      → last_in_file (says s) k upto start ≡ last_decision (effect_on says fold e) (lines_of (file_at rules k start end base))
  unfolding effect_on
  file-applies rules upto k start end base s q u =
      ap (λ (r : List ℕ). last_in_file (says s) k r start) u
      ∙ sym (file-decided (effect_on says fold e) (says s) (file_at rules k start end base) end rules refl
      (λ n m b. applied (applies base e) (subject_of fold base e) (Some s) (λ s. says s m b) (q ∙ in_file-subject fold base e)))

  pub file-passed : (rules : List ℕ) (k start end base : ℕ) → None ≡ in_file base (subject_of fold 0 e)
      → last_decision (effect_on says fold e) (lines_of (file_at rules k start end base)) ≡ None
  unfolding effect_on
  file-passed rules k start end base q =
      file_none (effect_on says fold e) (file_at rules k start end base)
      (λ n m b. applied (applies base e) (subject_of fold base e) None (λ s. says s m b) (q ∙ in_file-subject fold base e))

-- the two questions
pub ignore_reads : (fold : Bool) (e : Entry) (lines : List Line) → last_decision (effect_on ignore_at fold e) lines ≡ verdict fold lines e
unfolding verdict ignore_effect ignore_at effect_on
ignore_reads fold e lines = refl

pub attribute_reads : (fold : Bool) (e : Entry) (name : List ℕ) (lines : List Line)
    → last_decision (effect_on (λ subject. attribute_at subject name) fold e) lines ≡ attribute_state fold name lines e
unfolding attribute_state attribute_effect attribute_at effect_on
attribute_reads fold e name lines = refl

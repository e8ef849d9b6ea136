-- The files read one after another: the decision of one file, and then of the files after it.
use Prim.Native.Nat.{ℕ, suc, ◌+◌, ◌≤◌}
use native.Mathlib.Omega.{arith}
use native.Mathlib.Numerals.{add-one}
use mathlib.Core.Path.{◌≡◌, refl, sym, ap, ◌∙◌}
use mathlib.Core.List.{List, [], ◌∷◌}
use mathlib.Core.Logic.{◌⊎◌, inl, inr}
use Rattle.std.specs.Prelude.{Option, None, Some}
use lib.ListN.{length, take, drop, drop_of_length-le}
use lib.Seq.{drop-drop}
use Rattle.rulefiles.specs.RuleFiles.{File, Line, bytes_between, split, bom_length, files_from, lines_from, lines_of, lines_of_all}
use Rattle.rulefiles.specs.declared.Decision.{Decision}
use Rattle.rulefiles.specs.Decisions.{place_of, decision_by, override, last_decision}
use Rattle.rulefiles.proofs.PartLaws.{part_upto}
use Rattle.rulefiles.proofs.DecisionLaws.{override_assoc, last_append}
use Rattle.verdicts.specs.inner.Scan.{decision_at, last_in, content_start, last_in_file}

-- the file with this number, which is lent from its start to its end
abbrev pub file_at : List ℕ → ℕ → ℕ → ℕ → ℕ → File
file_at rules k start end base = record { number = k; base = base; start = start; bytes = bytes_between start end rules }

module _ {A : Type 0} (effect : Line → Option A) where
  decision_at_lem : (l : Line) (o : Option A) → decision_by l o ≡ decision_at l.file l.number o
  unfolding place_of
  decision_at_lem l None = refl
  decision_at_lem l (Some a) = refl

  -- the lines of a file, where the effect of each is by its place and bytes
  lines_in : (at_place : ℕ → List ℕ → Option A) (file base line at : ℕ) (ls : List (List ℕ))
      → ((n k : ℕ) (b : List ℕ) → effect (record { file = file; number = n; base = base; start = k; bytes = b }) ≡ at_place k b)
      → last_decision effect (lines_from file base line at ls) ≡ last_in at_place file line at ls
  lines_in at_place file base line at [] h = refl
  lines_in at_place file base line at (l ∷ ls) h =
      let r : Line = record { file = file; number = line; base = base; start = at; bytes = l } in
      rw (lines_in at_place file base (suc line) (at + length l + 1) ls h, decision_at_lem r (effect r), h line at l)

  lines_none : (file base line at : ℕ) (ls : List (List ℕ))
      → ((n k : ℕ) (b : List ℕ) → effect (record { file = file; number = n; base = base; start = k; bytes = b }) ≡ None)
      → last_decision effect (lines_from file base line at ls) ≡ None
  lines_none file base line at [] h = refl
  lines_none file base line at (l ∷ ls) h = rw (lines_none file base (suc line) (at + length l + 1) ls h, h line at l)

  pub file-decided : (at_place : ℕ → List ℕ → Option A) (f : File) (end : ℕ) (rules : List ℕ) → f.bytes ≡ bytes_between f.start end rules
      → ((n k : ℕ) (b : List ℕ) → effect (record { file = f.number; number = n; base = f.base; start = k; bytes = b }) ≡ at_place k b)
      → last_decision effect (lines_of f) ≡ last_in_file at_place f.number (take end rules) f.start
  unfolding lines_of last_in_file content_start
  file-decided at_place f end rules e h =
      let d : List ℕ = drop f.start (take end rules) in
      let q : f.bytes ≡ d = e ∙ part_upto f.start end rules in
      ap (λ (b : List ℕ). last_decision effect (lines_from f.number f.base 1 (f.start + bom_length b) (split (drop (bom_length b) b)))) q
      ∙ lines_in at_place f.number f.base 1 (f.start + bom_length d) (split (drop (bom_length d) d)) h
      ∙ ap (λ (b : List ℕ). last_in at_place f.number 1 (f.start + bom_length d) (split b)) (drop-drop (bom_length d) f.start (take end rules))

  pub file_none : (f : File) → ((n k : ℕ) (b : List ℕ) → effect (record { file = f.number; number = n; base = f.base; start = k; bytes = b }) ≡ None) → last_decision effect (lines_of f) ≡ None
  unfolding lines_of
  file_none f h = lines_none f.number f.base 1 (f.start + bom_length f.bytes) (split (drop (bom_length f.bytes) f.bytes)) h

  -- a file with no bytes has no lines
  pub file_empty : (rules : List ℕ) (k start end base : ℕ) → length (take end rules) ≤ start → last_decision effect (lines_of (file_at rules k start end base)) ≡ None
  unfolding lines_of bom_length split
  file_empty rules k start end base h =
      let q : bytes_between start end rules ≡ [] = part_upto start end rules ∙ drop_of_length-le (take end rules) {i = start} (omega arith) in
      ap (λ (b : List ℕ). last_decision effect (lines_from k base 1 (start + bom_length b) (split (drop (bom_length b) b)))) q

  -- one turn: the decision before, overridden by the file's, and then by the files after it
  pub file_turn : (rules ends bases : List ℕ) (k start end base : ℕ) (before after : Option (Decision A))
      → after ≡ override before (last_decision effect (lines_of (file_at rules k start end base)))
      → override before (last_decision effect (lines_of_all (files_from k start rules (end ∷ ends) (base ∷ bases))))
      ≡ override after (last_decision effect (lines_of_all (files_from (k + 1) end rules ends bases)))
  file_turn rules ends bases k start end base before after e =
      let f : File = file_at rules k start end base in
      let rest : List Line = lines_of_all (files_from (suc k) end rules ends bases) in
      rw (add-one k) (
      ap (override before) (last_append effect (lines_of f) rest) ∙ sym (override_assoc before (last_decision effect (lines_of f)) (last_decision effect rest))
      ∙ ap (λ (a : Option (Decision A)). override a (last_decision effect rest)) (sym e))

  -- no file is left where either list has ended
  pub files_end : (rules ends bases : List ℕ) (k start : ℕ) (before : Option (Decision A)) → (length ends ≡ 0) ⊎ (length bases ≡ 0)
      → before ≡ override before (last_decision effect (lines_of_all (files_from k start rules ends bases)))
  files_end rules [] bases k start before h = refl
  files_end rules (e ∷ ends) [] k start before h = refl
  files_end rules (e ∷ ends) (b ∷ bases) k start before (inl h) = absurd (omega arith)
  files_end rules (e ∷ ends) (b ∷ bases) k start before (inr h) = absurd (omega arith)

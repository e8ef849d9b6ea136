-- The lines of a file, and the files, read one after another, for both questions.
use Prim.Native.Nat.{ℕ, ◌+◌, ◌-◌, ◌<◌, ◌≤◌}
use native.Mathlib.Omega.{arith}
use native.Mathlib.Numerals.{add-one}
use mathlib.Core.Path.{◌≡◌, sym, ap, ◌∙◌}
use mathlib.Core.Bool.{Bool, true, false, cond}
use mathlib.Core.List.{List}
use Rattle.std.specs.Prelude.{Option}
use lib.ListN.{length, take, drop, length-drop, drop_of_length-le}
use lib.Seq.{drop-drop, length-take-le, take_all}
use Rattle.rulefiles.specs.RuleFiles.{split, line_length, has_bom, bom_length}
use Rattle.rulefiles.specs.declared.Decision.{Decision}
use Rattle.rulefiles.specs.Decisions.{override}
use Rattle.rulefiles.proofs.LineLaws.{split_none, split_first, line_fits}
use Rattle.rulefiles.proofs.DecisionLaws.{override_assoc}
use Rattle.verdicts.specs.inner.Scan.{decision_at, last_in, content_start, last_in_file}

pub content_inside : (s : List ℕ) (start n : ℕ) → n ≡ bom_length (take (length s - start) (drop start s)) → start + n ≡ content_start s start
unfolding content_start
content_inside s start n e = ap (λ (k : ℕ). start + k) (e ∙ ap bom_length (take_all (length s - start) (drop start s) (simp length-drop (omega arith))))

pub content_past : (s : List ℕ) (start : ℕ) → length s < start → start ≡ content_start s start
unfolding content_start bom_length
content_past s start h = rw (drop_of_length-le s {i = start} (omega arith)) (omega arith)

pub bom-small : (s : List ℕ) → bom_length s ≤ 3
unfolding bom_length
bom-small s = go (has_bom s)
  where
    go : (b : Bool) → ◌≤◌ (cond b 3 0) 3
    go true = omega arith
    go false = omega arith

module _ {A : Type 0} (effect : ℕ → List ℕ → Option A) (file : ℕ) where
  -- the line at place i, and the lines after it
  line_first : (upto : List ℕ) (line i end : ℕ) → i < length upto → end ≡ i + line_length (drop i upto)
      → last_in effect file line i (split (drop i upto))
      ≡ override (decision_at file line (effect i (take (end - i) (drop i upto)))) (last_in effect file (line + 1) (end + 1) (split (drop (end + 1) upto)))
  line_first upto line i end h e =
      let d : List ℕ = drop i upto in
      let k : ℕ = line_length d in
      let p : 0 < length d = simp length-drop (omega arith) in
      let m : end - i ≡ k = omega arith in
      let l : length (take k d) ≡ k = length-take-le k d (line_fits d) in
      let q : i + length (take k d) + 1 ≡ end + 1 = omega arith in
      let r : i + (k + 1) ≡ end + 1 = omega arith in
      ap (last_in effect file line i) (split_first d p)
      ∙ rw (m, q, add-one line, drop-drop (k + 1) i upto, r)

  -- one turn: the decision before, overridden by the line's, and then by the lines after it
  pub line_turn : (upto : List ℕ) (line i end : ℕ) (before after : Option (Decision A)) → i < length upto → end ≡ i + line_length (drop i upto)
      → after ≡ override before (decision_at file line (effect i (take (end - i) (drop i upto))))
      → override before (last_in effect file line i (split (drop i upto))) ≡ override after (last_in effect file (line + 1) (end + 1) (split (drop (end + 1) upto)))
  line_turn upto line i end before after h e q =
      ap (override before) (line_first upto line i end h e)
      ∙ sym (override_assoc before (decision_at file line (effect i (take (end - i) (drop i upto)))) (last_in effect file (line + 1) (end + 1) (split (drop (end + 1) upto))))
      ∙ ap (λ (a : Option (Decision A)). override a (last_in effect file (line + 1) (end + 1) (split (drop (end + 1) upto)))) (sym q)

  pub lines_end : (upto : List ℕ) (line i : ℕ) (before : Option (Decision A)) → length upto ≤ i → override before (last_in effect file line i (split (drop i upto))) ≡ before
  lines_end upto line i before h = ap (λ (ls : List (List ℕ)). override before (last_in effect file line i ls)) (split_none (drop i upto) (simp length-drop (omega arith)))

  -- the lines of a file begin
  pub file_begin : (upto : List ℕ) (start i : ℕ) (before : Option (Decision A)) → i ≡ content_start upto start
      → override before (last_in_file effect file upto start) ≡ override before (last_in effect file 1 i (split (drop i upto)))
  unfolding last_in_file
  file_begin upto start i before e = rw e

use mathlib.Core.Path.{sym, subst}
use mathlib.Core.Logic.{◌↔◌}
use mathlib.Core.Logic.Iff
use mathlib.Core.List.{List}
use Prim.Native.Nat.{ℕ}
use Rattle.std.proofs.Common.{rules, drop}
use Rattle.std.proofs.lemmas.List.{length_push}
use Rattle.std.proofs.lemmas.Slice.Zip.{zip_turn, zip_end}
use Rattle.bytestrings.proofs.BoolLaws.{yes_iff, no_iff, not_if_false}
use Rattle.rulefiles.specs.RuleFiles.{files_from}
use Rattle.questionrefusals.specs.Conditions.{LongLine}
use Rattle.questionrefusals.specs.inner.Scans.{LongIn}
use Rattle.questionrefusals.proofs.LongLaws.{LongFiles, files_begin, files_past, file_long, file_fine}
use Rattle.questionrefusals.proofs.rules.line_long.Goals as goal

pub loop-end-init : goal.loop-end-init
loop-end-init c = files_begin _ _ _

pub returns-then-long_in : goal.returns-then-long_in
returns-then-long_in c =
    let t = zip_turn c.args.files.now.ends.now c.args.files.now.bases.now c.loop-end.yielded c.into_iter-end-iterator.result c.loop-end.end-iterator
    c.next.new.self c.next.result (search rules) (search rules) c.loop-end.yielded_by _ c.in-Some.is c.next.ensures.steps in
    yes_iff (c.loop-end.invariant.1 (file_long _ _ _ _ _ c.in-Some.end.now t.0 t.1 (t.2 0)
    (subst (λ (d : List ℕ). LongIn d) c.file_part.ensures (c.long_in.ensures.0 c.if-long_in.true))))

pub loop-end-preserved : goal.loop-end-preserved
loop-end-preserved c =
    let a = c.args.files.now in
    let t = zip_turn a.ends.now a.bases.now c.loop-end.yielded c.into_iter-end-iterator.result c.loop-end.end-iterator
    c.next.new.self c.next.result (search rules) (search rules) c.loop-end.yielded_by _ c.in-Some.is c.next.ensures.steps in
    subst (λ (n : ℕ). LongLine a.rules.now a.ends.now a.bases.now ↔ LongFiles (files_from n c.in-Some.end.now a.rules.now (drop n a.ends.now) (drop n a.bases.now)))
    (sym (length_push c.loop-end.yielded _))
    (Iff.trans c.loop-end.invariant (file_fine _ _ _ _ _ c.in-Some.end.now t.0 t.1 (t.2 0)
    (λ h. not_if_false c.long_in.ensures c.if-long_in.false (subst (λ (d : List ℕ). LongIn d) (sym c.file_part.ensures) h))))

pub returns : goal.returns
returns c =
    let t = zip_end c.args.files.now.ends.now c.args.files.now.bases.now c.loop-end.yielded c.into_iter-end-iterator.result c.loop-end.end-iterator
    c.next.new.self c.next.result (search rules) (search rules) c.loop-end.yielded_by c.in-None.is c.next.ensures.steps in
    no_iff (λ b. files_past _ _ _ _ _ t (c.loop-end.invariant.0 b))

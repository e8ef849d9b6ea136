use Prim.Native.Nat.{ℕ, ◌≤◌}
use mathlib.Core.Path.{◌≡◌, refl, sym, ap, subst, ◌∙◌}
use mathlib.Core.List.{List}
use lib.ListN.{length}
use mathlib.Core.Logic.{inl, inr}
use Rattle.std.specs.Prelude.{Some}
use Rattle.entries.specs.Entries.{Subject, against, subject_of, in_file}
use Rattle.rulefiles.specs.RuleFiles.{lines_of}
use Rattle.rulefiles.specs.Decisions.{override, last_decision}
use Rattle.verdicts.specs.inner.Scan.{effect_on}
use Rattle.verdicts.proofs.FileLaws.{file_at, file_empty, file_turn, files_end}
use Rattle.verdicts.proofs.VerdictLaws.{entry_of, lines_begin, with_rest, file-applies, file-passed}
use Rattle.verdicts.proofs.scan.last_decision.Goals as goal

pub loop-file-init : goal.loop-file-init
loop-file-init g c =
    let a = c.args in (
      rw (
        c.into_iter-file-iterator.ensures.into_iter_gives,
        c.enumerate-file-items.ensures.source,
        c.enumerate-file-items.ensures.count,
        c.zip.ensures.first,
        c.zip.ensures.second.0,
        c.iter.ensures.rest,
      )
          (lines_begin (g.R.LineRule.says a.rule.now) a.fold (entry_of a.entry.now a.directory) a.files.now.rules.now a.files.now.ends.now a.files.now.bases.now),
      refl,
    )

pub loop-file-preserved-in-Some-in_file : goal.loop-file-preserved-in-Some-in_file
loop-file-preserved-in-Some-in_file g c =
    let a = c.args in
    let says = g.R.LineRule.says a.rule.now in
    let l = c.loop-file in
    let left = c.next.new.self in
    let k = c.in-Some.file in
    let end = c.in-Some.end.now in
    let base = c.in-Some.base.now in
    let e = entry_of a.entry.now a.directory in
    let seen = c.in-Some-in_file.ensures ∙ ap (in_file base) c.of-whole.ensures in
    let with_its = λ (s : Subject). Some (against c.in-Some-in_file.seen.rest.now s.component s.directory s.fold) in
    let subject = ap with_its (l.invariant.1 ∙ c.of-whole.ensures) ∙ with_rest base (subject_of a.fold 0 e) _ seen in
    let turn : c.after_file.new.last ≡ override l.last (last_decision (effect_on says a.fold e) (lines_of (file_at a.files.now.rules.now k l.start end base))) =
    c.after_file.ensures ∙ ap (override l.last) (file-applies says a.fold e a.files.now.rules.now _ k l.start end base _ subject c.rules_upto-upto.ensures) in
    let t = c.in-Some.ensures.steps in
    let files = file_turn (effect_on says a.fold e) a.files.now.rules.now left.iter.a.rest.now left.iter.b.rest.now k l.start end base l.last c.after_file.new.last turn in
    (l.invariant.0 ∙ rw (t.0.0, t.0.1, t.2, sym t.1) files, l.invariant.1)

pub loop-file-preserved-in_default : goal.loop-file-preserved-in_default
loop-file-preserved-in_default g c =
    let a = c.args in
    let says = g.R.LineRule.says a.rule.now in
    let l = c.loop-file in
    let left = c.next.new.self in
    let k = c.in-Some.file in
    let end = c.in-Some.end.now in
    let base = c.in-Some.base.now in
    let e = entry_of a.entry.now a.directory in
    let turn : l.last ≡ override l.last (last_decision (effect_on says a.fold e) (lines_of (file_at a.files.now.rules.now k l.start end base))) =
    sym (ap (override l.last) (file-passed says a.fold e a.files.now.rules.now k l.start end base (c.in_default.ensures ∙ ap (in_file base) c.of-whole.ensures))) in
    let t = c.in-Some.ensures.steps in
    let files = file_turn (effect_on says a.fold e) a.files.now.rules.now left.iter.a.rest.now left.iter.b.rest.now k l.start end base l.last l.last turn in
    (l.invariant.0 ∙ rw (t.0.0, t.0.1, t.2, sym t.1) files, l.invariant.1)

pub loop-file-preserved : goal.loop-file-preserved
loop-file-preserved g c =
    let a = c.args in
    let says = g.R.LineRule.says a.rule.now in
    let l = c.loop-file in
    let left = c.next.new.self in
    let k = c.in-Some.file in
    let end = c.in-Some.end.now in
    let base = c.in-Some.base.now in
    let e = entry_of a.entry.now a.directory in
    let turn : l.last ≡ override l.last (last_decision (effect_on says a.fold e) (lines_of (file_at a.files.now.rules.now k l.start end base))) =
    sym (ap (override l.last) (file_empty (effect_on says a.fold e) a.files.now.rules.now k l.start end base
    (subst (λ (s : List ℕ). length s ≤ l.start) c.rules_upto-upto.ensures c.if-start-upto.false))) in
    let t = c.in-Some.ensures.steps in
    let files = file_turn (effect_on says a.fold e) a.files.now.rules.now left.iter.a.rest.now left.iter.b.rest.now k l.start end base l.last l.last turn in
    (l.invariant.0 ∙ rw (t.0.0, t.0.1, t.2, sym t.1) files, l.invariant.1)

pub returns : goal.returns
returns g c =
    let l = c.loop-file in
    files_end _ c.args.files.now.rules.now _ _ l.file-iterator.count l.start l.last (elim c.in-None.ensures.steps.0 [ inl a ↦ inl a.1.0 | inr b ↦ inr b.1.0 ]) ∙ sym l.invariant.0

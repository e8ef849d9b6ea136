use Prim.Native.Nat.{◌-◌, ◌≤◌}
use native.Mathlib.Omega.{arith}
use mathlib.Core.Path.{◌≡◌, sym, ap, ◌∙◌}
use lib.ListN.{length, take, drop, length-drop}
use lib.Seq.{length-take-le}
use Rattle.entries.specs.Entries.{subject_in}
use Rattle.std.specs.Prelude.{Option}
use Rattle.rulefiles.specs.Decisions.{override}
use Rattle.rulefiles.proofs.LineLaws.{line_fits}
use Rattle.rulefiles.proofs.PartLaws.{upto_part}
use Rattle.verdicts.specs.inner.Scan.{decision_at}
use Rattle.verdicts.proofs.ScanLaws.{line_turn, lines_end, file_begin}
use Rattle.verdicts.proofs.scan.after_file.Goals as goal
use Rattle.verdicts.proofs.scan.after_file.Goals.{in-Some, in_default}

pub loop-i-init : goal.loop-i-init
loop-i-init g c = (omega arith, file_begin _ _ _ _ _ _ c.content_start-i.ensures)

pub slice_bounds-effect-end : goal.slice_bounds-effect-end
slice_bounds-effect-end g c =
    let fits : c.line_end-end.result ≤ length c.args.upto.now =
    omega (arith, c.line_end-end.ensures, line_fits (drop c.loop-i.i c.args.upto.now), length-drop c.loop-i.i c.args.upto.now, c.loop-i-test.true) in
    sym (length-take-le _ _ fits)

pub overflow_add-i : goal.overflow_add-i
overflow_add-i g c =
    omega (arith, c.line_end-end.ensures, line_fits (drop c.loop-i.i c.args.upto.now), length-drop c.loop-i.i c.args.upto.now, c.loop-i-test.true)

pub loop-i-preserved : goal.loop-i-preserved
loop-i-preserved g c =
    let a = c.args in
    let says = g.R.LineRule.says a.rule.now (subject_in a.subject.now) in
    let i = c.loop-i.i in
    let end = c.line_end-end.result in
    let before = c.loop-i.last in
    let by_line = λ (o : Option g.row.R-Effect.Denot). override before (decision_at a.file c.loop-i.line o) in
    let line_is = ap (says i) (sym (upto_part i end a.upto.now)) in
    let turn : c.match-effect.last ≡ by_line (says i (take (end - i) (drop i a.upto.now))) =
    elim c.match-effect.branch [
      | in-Some w ↦ w.last-is ∙ rw w.line_place.ensures (ap by_line (w.in-Some.ensures ∙ line_is))
      | in_default w ↦ w.last-is ∙ ap by_line (w.in_default.ensures ∙ line_is)
    ] in (
      omega (arith, c.loop-i.invariant.0, c.line_end-end.ensures),
      c.loop-i.invariant.1 ∙ line_turn says a.file a.upto.now c.loop-i.line i end before c.match-effect.last c.loop-i-test.true c.line_end-end.ensures turn,
    )

pub returns : goal.returns
returns g c =
    sym (c.loop-i.invariant.1 ∙ lines_end _ c.args.file c.args.upto.now c.loop-i.line c.loop-i.i c.loop-i.last c.loop-i-test.false)

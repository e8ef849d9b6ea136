use Prim.Native.Nat.{◌<◌, ◌≤◌}
use native.Mathlib.Omega.{arith}
use mathlib.Core.Path.{◌≡◌, sym, ap, ◌∙◌}
use Rattle.std.specs.Prelude.{None, Some}
use lib.ListN.{take, length}
use lib.Seq.{length-take-le}
use Rattle.rulefiles.specs.RuleFiles.{ordered_lines}
use Rattle.verdicts.specs.Verdicts.{verdict}
use Rattle.verdicts.specs.inner.Scan.{ignored_at}
use Rattle.verdicts.proofs.ParentLaws.{parent_fits, ignored_top, ignored_step}
use Rattle.verdicts.proofs.topdown.+first_ignored_parent.Goals as goal

pub returns-in_err-n : goal.returns-in_err-n
returns-in_err-n t c = c.from_residual.ensures ∙ ignored_top _ _ _ c.component_start.ensures c.in_err-n.ensures

pub slice_bounds-parent-end : goal.slice_bounds-parent-end
slice_bounds-parent-end t c =
    let f = parent_fits c.args.entry.now _ c.in_ok-n.n c.component_start.ensures c.in_ok-n.ensures in
    sym (length-take-le _ _ (omega (arith, f)))

pub first_ignored_parent-requires : goal.first_ignored_parent-requires
first_ignored_parent-requires t c =
    let f = parent_fits c.args.entry.now _ c.in_ok-n.n c.component_start.ensures c.in_ok-n.ensures in
    let m : length c.args.entry.now ≡ t = c.decreases in
    let l : c.in_ok-n.n ≤ length c.args.entry.now = omega (arith, f) in
    let g : length (take c.in_ok-n.n c.args.entry.now) < t = omega (arith, f, m, length-take-le c.in_ok-n.n c.args.entry.now l) in
    (g, tt)

pub returns-in-Some : goal.returns-in-Some
returns-in-Some t c =
    let files = c.args.files.now in
    ignored_step (verdict c.args.fold (ordered_lines files.rules.now files.ends.now files.bases.now)) c.args.entry.now _ c.in_ok-n.n
    (Some c.in-Some.d) c.component_start.ensures c.in_ok-n.ensures c.in-Some.ensures

pub returns-in-None : goal.returns-in-None
returns-in-None t c =
    let files = c.args.files.now in
    c.ignored_at.ensures ∙ ap (ignored_at c.in_ok-n.n) c.entry_verdict.ensures
    ∙ ignored_step (verdict c.args.fold (ordered_lines files.rules.now files.ends.now files.bases.now)) c.args.entry.now _ c.in_ok-n.n
    None c.component_start.ensures c.in_ok-n.ensures c.in-None.ensures

use native.Mathlib.Omega.{arith}
use mathlib.Core.Path.{sym, ◌∙◌}
use Rattle.std.proofs.Common.{rules, tests}
use Rattle.ignorelines.proofs.LineLaws.{kept_begin, kept_step, kept_end}
use Rattle.ignorelines.proofs.kept_scan.Goals as goal

pub loop-i-init : goal.loop-i-init
loop-i-init c = kept_begin c.args.line.now

pub loop-i-preserved : goal.loop-i-preserved
loop-i-preserved c =
    let s = c.args.line.now in
    let i = c.loop-i.i in
    c.loop-i.invariant ∙ kept_step s c.loop-i.keep i c.loop-i.escaped (omega arith) ∙ (search (tests, rules))

pub returns : goal.returns
returns c =
    sym (c.loop-i.invariant ∙ kept_end c.args.line.now c.loop-i.keep c.loop-i.i c.loop-i.escaped (omega arith))

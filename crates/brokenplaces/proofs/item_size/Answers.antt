-- `brokenplaces::item_size` meets its contract: an escape has two bytes, a class those up to its `]`.
use mathlib.Core.Path.{◌∙◌}
use Rattle.brokenplaces.proofs.BrokenLaws.{escape_open, escape_size, class_open, class_whole, class_within}
use native.Mathlib.Omega.{arith}
use Rattle.brokenplaces.proofs.item_size.Goals as goal

pub returns-then-p-lt2 : goal.returns-then-p-lt2
returns-then-p-lt2 c = escape_open _ c.requires.0 c.if-p-eq92.true c.if-p-lt2.true

pub returns-else-p-lt2 : goal.returns-else-p-lt2
returns-else-p-lt2 c = escape_size _ c.if-p-eq92.true c.if-p-lt2.false

pub returns-in_err-size : goal.returns-in_err-size
returns-in_err-size c = c.from_residual.ensures ∙ class_open _ c.requires.0 c.requires.1 c.if-p-eq92.false c.in_err-size.ensures

pub overflow_add-result : goal.overflow_add-result
overflow_add-result c =
    let h = class_within c.args.p.now c.requires.0 c.requires.1 c.if-p-eq92.false _ c.in_ok-size.ensures in
    omega arith

pub returns : goal.returns
returns c = class_whole _ c.requires.0 c.requires.1 c.if-p-eq92.false _ c.in_ok-size.ensures

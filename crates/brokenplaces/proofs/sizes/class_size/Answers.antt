-- `brokenplaces::sizes::class_size` meets its contract: the sign, if there is one, and the members.
use mathlib.Core.Path.{◌∙◌}
use native.Mathlib.Omega.{arith}
use borrow.Author.Rules.{rules}
use Rattle.classes.proofs.ClassLaws.{start_sign, start_plain}
use Rattle.brokenplaces.proofs.MeasureLaws.{class_measured}
use Rattle.brokenplaces.proofs.sizes.class_size.Goals as goal

pub returns-in_err-n : goal.returns-in_err-n
returns-in_err-n c =
    c.from_residual.ensures ∙ class_measured _ _ _ (search (rules, start_sign, start_plain)) c.in_err-n.ensures

pub overflow_add-result : goal.overflow_add-result
overflow_add-result c =
    let h = class_measured c.args.q.now c.if-is_negated.from _ (search (rules, start_sign, start_plain)) c.in_ok-n.ensures in omega arith

pub returns : goal.returns
returns c =
    (class_measured _ _ _ (search (rules, start_sign, start_plain)) c.in_ok-n.ensures).1

-- `classes::class::test_class` meets its contract: the members are scanned for the two forms of the byte, and the sign is applied last.
use native.Mathlib.Omega.{arith}
use borrow.Author.Rules.{rules}
use Rattle.classes.proofs.ClassLaws.{start_sign, start_plain, form-folded, form-plain, class_fits, class_none, class_some}
use Rattle.classes.proofs.class.test_class.Goals as goal

pub returns-in_err-scanned : goal.returns-in_err-scanned
returns-in_err-scanned c =
    rw c.from_residual.ensures
    (class_none _ _ _ _ _
    (search (rules, start_sign, start_plain)) c.scan_members.ensures
    _ _ (search (rules, form-folded, form-plain)) (search (rules, form-folded, form-plain))
    c.in_err-scanned.was)

pub overflow_add-result : goal.overflow_add-result
overflow_add-result c =
    let h = class_fits c.args.q.now c.if-negated.from _ _ _
    (search (rules, start_sign, start_plain)) c.scan_members.ensures
    _ c.in_ok-scanned.was in
    omega arith

pub returns : goal.returns
returns c =
    class_some _ _ _ _ _
    (search (rules, start_sign, start_plain)) c.scan_members.ensures
    _ _ (search (rules, form-folded, form-plain)) (search (rules, form-folded, form-plain))
    _ _ c.is_negated-negated.ensures c.in_ok-scanned.was

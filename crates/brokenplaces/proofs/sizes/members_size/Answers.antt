use mathlib.Core.Path.{sym, ◌∙◌}
use native.Mathlib.Omega.{arith}
use borrow.Author.Tests.{eq-eqb}
use borrow.Author.Rules.{rules}
use Rattle.classes.proofs.MemberLaws.{first_goes_on, other_goes_on}
use Rattle.brokenplaces.proofs.MeasureLaws.{left_all, left_none, left_close, name_turn, plain_turn}
use Rattle.brokenplaces.proofs.sizes.members_size.Goals as goal

pub loop-i-init : goal.loop-i-init
loop-i-init c = (search rules, left_all _, λ h. absurd (omega arith))

pub returns-then-i-ne0 : goal.returns-then-i-ne0
returns-then-i-ne0 c = left_close _ _ (omega arith) (omega arith) c.if-i-ne0.true c.loop-i.invariant.1

pub returns-in_err-n : goal.returns-in_err-n
returns-in_err-n c =
    c.from_residual.ensures
    ∙ name_turn _ _ _ _ (omega arith) c.loop-i.invariant.1 (λ h. c.next_close-close.ensures) (sym c.starts_name.ensures ∙ c.if-starts_name.true) c.in_err-n.ensures

pub overflow_add-i-then-starts_name-2 : goal.overflow_add-i-then-starts_name-2
overflow_add-i-then-starts_name-2 c =
    let h = name_turn _ _ _ _ (omega arith) c.loop-i.invariant.1 (λ h. c.next_close-close.ensures) (sym c.starts_name.ensures ∙ c.if-starts_name.true) c.in_ok-n.ensures in
    omega arith

pub loop-i-smaller-then-starts_name : goal.loop-i-smaller-then-starts_name
loop-i-smaller-then-starts_name c =
    let h = name_turn _ _ _ _ (omega arith) c.loop-i.invariant.1 (λ h. c.next_close-close.ensures) (sym c.starts_name.ensures ∙ c.if-starts_name.true) c.in_ok-n.ensures in
    omega arith

pub loop-i-preserved-then-starts_name : goal.loop-i-preserved-then-starts_name
loop-i-preserved-then-starts_name c =
    (name_turn _ _ _ _ (omega arith) c.loop-i.invariant.1 (λ h. c.next_close-close.ensures) (sym c.starts_name.ensures ∙ c.if-starts_name.true) c.in_ok-n.ensures).1

pub returns-in_err-n-2 : goal.returns-in_err-n-2
returns-in_err-n-2 c =
    c.from_residual-in_err-n-2.ensures
    ∙ plain_turn _ _ _ _ (omega arith) c.loop-i.invariant.1 c.loop-i.invariant.2 (search (rules, first_goes_on, other_goes_on, eq-eqb)) c.in_err-n-2.ensures

pub overflow_add-i-else-starts_name : goal.overflow_add-i-else-starts_name
overflow_add-i-else-starts_name c =
    let h = plain_turn _ _ _ _ (omega arith) c.loop-i.invariant.1 c.loop-i.invariant.2 (search (rules, first_goes_on, other_goes_on, eq-eqb)) c.in_ok-n-2.ensures in
    omega arith

pub loop-i-smaller : goal.loop-i-smaller
loop-i-smaller c =
    let h = plain_turn _ _ _ _ (omega arith) c.loop-i.invariant.1 c.loop-i.invariant.2 (search (rules, first_goes_on, other_goes_on, eq-eqb)) c.in_ok-n-2.ensures in
    omega arith

pub loop-i-preserved : goal.loop-i-preserved
loop-i-preserved c =
    (plain_turn _ _ _ _ (omega arith) c.loop-i.invariant.1 c.loop-i.invariant.2 (search (rules, first_goes_on, other_goes_on, eq-eqb)) c.in_ok-n-2.ensures).1

pub returns : goal.returns
returns c = left_none _ _ (omega arith) c.loop-i.invariant.1

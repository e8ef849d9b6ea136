use native.Mathlib.Omega.{arith}
use borrow.Author.Rules.{rules}
use Rattle.brokenplaces.proofs.BrokenLaws.{left_all, left_none, left_byte, left_broken, left_item, may_break_from}
use Rattle.brokenplaces.proofs.broken_at.Goals as goal

pub loop-i-init : goal.loop-i-init
loop-i-init c = (search rules, left_all _)

pub item_size-requires : goal.item_size-requires
item_size-requires c = may_break_from c.args.pattern.now _ c.loop-i-test.true _ c.may_break.ensures c.if-may_break.true

pub returns-in_default : goal.returns-in_default
returns-in_default c = left_broken _ _ c.loop-i-test.true c.loop-i.invariant.1 _ c.item_size.ensures c.in_default.is

pub overflow_add-i : goal.overflow_add-i
overflow_add-i c =
    let h = left_item _ _ c.loop-i-test.true c.loop-i.invariant.1 _ c.item_size.ensures _ c.in-Some.is in omega arith

pub loop-i-smaller-then-may_break : goal.loop-i-smaller-then-may_break
loop-i-smaller-then-may_break c =
    let h = left_item _ _ c.loop-i-test.true c.loop-i.invariant.1 _ c.item_size.ensures _ c.in-Some.is in omega arith

pub loop-i-preserved-then-may_break : goal.loop-i-preserved-then-may_break
loop-i-preserved-then-may_break c =
    let h = left_item _ _ c.loop-i-test.true c.loop-i.invariant.1 _ c.item_size.ensures _ c.in-Some.is in (h.1, h.2)

pub loop-i-preserved : goal.loop-i-preserved
loop-i-preserved c =
    (omega arith, left_byte _ _ c.loop-i-test.true c.loop-i.invariant.1 _ c.may_break.ensures c.if-may_break.false)

pub returns : goal.returns
returns c = left_none _ _ c.loop-i-test.false c.loop-i.invariant.1

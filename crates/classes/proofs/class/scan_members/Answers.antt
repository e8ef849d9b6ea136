use mathlib.Core.Path.{ap}
use Prim.Native.Nat.{◌+◌}
use native.Mathlib.Omega.{arith}
use borrow.Author.Rules.{rules}
use Rattle.classes.specs.inner.Scan.{step_of, plain_places, PlainTo}
use Rattle.classes.proofs.PlainLaws.{plain_none, plain_less, plain-within}
use Rattle.classes.proofs.ScanLaws.{left_all, left_none, left_close, left_broken, left_size, left_turn, found_before, found_now}
use Rattle.classes.proofs.class.scan_members.Goals as goal

pub loop-i-init : goal.loop-i-init
loop-i-init c = (search rules, left_all _ _ _, plain_none _ _ _ (omega arith))

pub next_at-requires : goal.next_at-requires
next_at-requires c = (c.loop-i-test.true, c.loop-i.invariant.2)

pub returns-in-Close : goal.returns-in-Close
returns-in-Close c =
    left_close _ _ _ _ _ _ c.next_at.ensures.0 c.loop-i.invariant.1 (ap step_of c.in-Close.is)

pub returns-in-Broken : goal.returns-in-Broken
returns-in-Broken c =
    left_broken _ _ _ _ _ _ c.next_at.ensures.0 c.loop-i.invariant.1 (ap step_of c.in-Broken.is)

pub overflow_add-i : goal.overflow_add-i
overflow_add-i c =
    let h = left_size _ _ _ _ _ _ c.next_at.ensures.0 c.loop-i.invariant.1 _ _ (ap step_of c.in-Byte.is) in
    omega arith

pub loop-i-smaller-in-Byte : goal.loop-i-smaller-in-Byte
loop-i-smaller-in-Byte c =
    let h = left_size _ _ _ _ _ _ c.next_at.ensures.0 c.loop-i.invariant.1 _ _ (ap step_of c.in-Byte.is) in
    omega arith

pub loop-i-preserved-in-Byte : goal.loop-i-preserved-in-Byte
loop-i-preserved-in-Byte c =
    left_turn _ _ _ _ _ _ c.next_at.ensures.0 c.loop-i.invariant.1 _ _ (ap step_of c.in-Byte.is) _ c.loop-i-test.true c.loop-i.invariant.2 _
    (search (rules, found_before, found_now))

pub overflow_add-i-in-Range : goal.overflow_add-i-in-Range
overflow_add-i-in-Range c =
    let h = left_size _ _ _ _ _ _ c.next_at.ensures.0 c.loop-i.invariant.1 _ _ (ap step_of c.in-Range.is) in
    omega arith

pub loop-i-smaller-in-Range : goal.loop-i-smaller-in-Range
loop-i-smaller-in-Range c =
    let h = left_size _ _ _ _ _ _ c.next_at.ensures.0 c.loop-i.invariant.1 _ _ (ap step_of c.in-Range.is) in
    omega arith

pub loop-i-preserved-in-Range : goal.loop-i-preserved-in-Range
loop-i-preserved-in-Range c =
    left_turn _ _ _ _ _ _ c.next_at.ensures.0 c.loop-i.invariant.1 _ _ (ap step_of c.in-Range.is) _ c.loop-i-test.true c.loop-i.invariant.2 _
    (search (rules, found_before, found_now))

pub overflow_add-i-in-Name : goal.overflow_add-i-in-Name
overflow_add-i-in-Name c =
    let h = left_size _ _ _ _ _ _ c.next_at.ensures.0 c.loop-i.invariant.1 _ _ (ap step_of c.in-Name.is) in
    omega arith

pub loop-i-smaller-in-Name : goal.loop-i-smaller-in-Name
loop-i-smaller-in-Name c =
    let h = left_size _ _ _ _ _ _ c.next_at.ensures.0 c.loop-i.invariant.1 _ _ (ap step_of c.in-Name.is) in
    omega arith

pub loop-i-preserved-in-Name : goal.loop-i-preserved-in-Name
loop-i-preserved-in-Name c =
    left_turn _ _ _ _ _ _ c.next_at.ensures.0 c.loop-i.invariant.1 _ _ (ap step_of c.in-Name.is) _ c.loop-i-test.true c.loop-i.invariant.2 _
    (search (rules, found_before, found_now))

pub overflow_add-plain : goal.overflow_add-plain
overflow_add-plain c =
    let e = ap plain_places c.in-Plain.is in
    let plain-found : PlainTo c.args.q.now (c.loop-i.i + 2) (c.loop-i.i + 2 + c.in-Plain.n + 1) =
    plain_less _ _ _ _ _ (omega arith) (omega arith) c.next_at.ensures.1 in
    let h = plain-within _ _ _ plain-found (omega arith) in omega arith

pub overflow_add-plain-in-Plain : goal.overflow_add-plain-in-Plain
overflow_add-plain-in-Plain c =
    let e = ap plain_places c.in-Plain.is in
    let plain-found : PlainTo c.args.q.now (c.loop-i.i + 2) (c.loop-i.i + 2 + c.in-Plain.n + 1) =
    plain_less _ _ _ _ _ (omega arith) (omega arith) c.next_at.ensures.1 in
    let h = plain-within _ _ _ plain-found (omega arith) in omega arith

pub overflow_add-i-in-Plain : goal.overflow_add-i-in-Plain
overflow_add-i-in-Plain c =
    let h = left_size _ _ _ _ _ _ c.next_at.ensures.0 c.loop-i.invariant.1 _ _ (ap step_of c.in-Plain.is) in
    omega arith

pub loop-i-smaller : goal.loop-i-smaller
loop-i-smaller c =
    let h = left_size _ _ _ _ _ _ c.next_at.ensures.0 c.loop-i.invariant.1 _ _ (ap step_of c.in-Plain.is) in
    omega arith

pub loop-i-preserved : goal.loop-i-preserved
loop-i-preserved c =
    let e = ap plain_places c.in-Plain.is in
    let plain-found : PlainTo c.args.q.now (c.loop-i.i + 2) (c.loop-i.i + 2 + c.in-Plain.n + 1) =
    plain_less _ _ _ _ _ (omega arith) (omega arith) c.next_at.ensures.1 in
    left_turn _ _ _ _ _ _ c.next_at.ensures.0 c.loop-i.invariant.1 _ _ (ap step_of c.in-Plain.is) _ c.loop-i-test.true plain-found _
    (search (rules, found_before, found_now))

pub returns : goal.returns
returns c = left_none _ _ _ _ _ c.loop-i-test.false c.loop-i.invariant.1

-- `classes::class::next_at` meets its contract: a `[:` before `plain` is known to begin a plain member, else the member is read.
use mathlib.Core.Path.{ap, ◌∙◌}
use borrow.Author.Tests.{leb-true}
use native.Mathlib.Omega.{arith}
use Rattle.classes.specs.Members.{next_member}
use Rattle.bytestrings.proofs.SliceLaws.{from-drop}
use Rattle.classes.proofs.PlainLaws.{plain_less, plain_part, plain-within, plain_known}
use Rattle.classes.proofs.class.next_at.Goals as goal

pub bounds-q-i-then-i-plain : goal.bounds-q-i-then-i-plain
bounds-q-i-then-i-plain c =
    let h = plain-within _ _ _ c.requires.1 (omega (arith, leb-true)) in
    omega (arith, leb-true)

pub overflow_sub-result : goal.overflow_sub-result
overflow_sub-result c = omega (arith, leb-true)

pub overflow_sub-result-then-q-i-eq58 : goal.overflow_sub-result-then-q-i-eq58
overflow_sub-result-then-q-i-eq58 c = omega (arith, leb-true)

pub returns-then-q-i-eq58 : goal.returns-then-q-i-eq58
returns-then-q-i-eq58 c = (
  plain_known _ _ _ _ c.requires.1 c.if-i-plain.true c.if-q-i-eq91.true c.if-q-i-eq58.true,
  plain_less _ _ _ _ _ (omega arith) (omega (arith, leb-true)) c.requires.1,
)

pub returns : goal.returns
returns c = (
  c.next_member.ensures.0 ∙ ap (next_member _) (from-drop c.args.i c.args.q.now),
  plain_less _ _ _ _ _ (omega arith) (omega arith) (plain_part _ _ 2 _ c.next_member.ensures.1),
)

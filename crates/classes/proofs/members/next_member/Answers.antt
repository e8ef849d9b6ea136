-- `classes::members::next_member` meets its contract: each return settles the tests of `next_member`.
use native.Mathlib.Omega.{arith}
use borrow.Author.Rules.{rules}
use Rattle.classes.proofs.MemberLaws.{first_goes_on, other_goes_on, next_end, next_close, next_open, next_escaped, next_bracket, next_single}
use Rattle.classes.proofs.PlainLaws.{plain_none, plain_less, plain_part}
use Rattle.classes.proofs.members.next_member.Goals as goal

pub returns-then-q-eq0 : goal.returns-then-q-eq0
returns-then-q-eq0 c = (next_end _ _ c.if-q-eq0.true, plain_none _ _ _ (omega arith))

pub returns-then-not-first : goal.returns-then-not-first
returns-then-not-first c =
    (next_close _ _ c.if-q-eq0.false c.if-x-eq93.true c.if-not-first.true, plain_none _ _ _ (omega arith))

pub returns-then-q-lt2 : goal.returns-then-q-lt2
returns-then-q-lt2 c =
    (next_open _ _ c.if-q-eq0.false (search (rules, first_goes_on, other_goes_on)) c.if-x-eq92.true c.if-q-lt2.true, plain_none _ _ _ (omega arith))

pub returns-then-x-eq92 : goal.returns-then-x-eq92
returns-then-x-eq92 c = (
  next_escaped _ _ _ (search (rules, first_goes_on, other_goes_on)) c.if-x-eq92.true c.if-q-lt2.false c.read_single.ensures.0,
  plain_none _ _ _ (omega (arith, c.read_single.ensures.1)),
)

pub returns-then-x-eq91 : goal.returns-then-x-eq91
returns-then-x-eq91 c = (
  next_bracket _ _ _ c.if-q-eq0.false (search (rules, first_goes_on, other_goes_on)) c.if-x-eq92.false
      c.if-x-eq91.true
      c.read_bracket.ensures.0,
  plain_less _ _ _ _ _ (omega arith) (omega arith) (plain_part _ 1 1 _ c.read_bracket.ensures.1),
)

pub returns : goal.returns
returns c = (
  next_single _ _ _ c.if-q-eq0.false (search (rules, first_goes_on, other_goes_on)) c.if-x-eq92.false
      c.if-x-eq91.false
      c.read_single-2.ensures.0,
  plain_none _ _ _ (omega (arith, c.read_single-2.ensures.1)),
)

-- `classes::members::read_name` meets its contract: each return settles the tests of `name_at`.
use borrow.Author.Rules.{rules}
use native.Mathlib.Omega.{arith}
use Rattle.classes.specs.Members.{name_at}
use Rattle.classes.proofs.MemberLaws.{name_open, name_unknown, name-found}
use Rattle.classes.proofs.PlainLaws.{plain_none, plain_empty, plain_other}
use Rattle.classes.proofs.members.read_name.Goals as goal

pub returns-then-q-n : goal.returns-then-q-n
returns-then-q-n c = (name_open _ _ c.until_close-n.ensures c.if-q-n.true, plain_none _ _ _ (omega arith))

pub returns-then-n-eq0 : goal.returns-then-n-eq0
unfolding name_at
returns-then-n-eq0 c = search (rules, plain_empty, plain_other)

pub returns-in-Some : goal.returns-in-Some
returns-in-Some c = (name-found _ _ c.until_close-n.ensures c.if-q-n.false c.if-n-eq0.false c.if-q-n-ne58.false _ c.in-Some.ensures, plain_none _ _ _ (omega arith))

pub returns-in-None : goal.returns-in-None
returns-in-None c = (name_unknown _ _ c.until_close-n.ensures c.if-q-n.false c.if-n-eq0.false c.if-q-n-ne58.false c.in-None.ensures, plain_none _ _ _ (omega arith))

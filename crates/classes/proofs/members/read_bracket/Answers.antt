-- `classes::members::read_bracket` meets its contract: each return settles the tests of `bracket_at`.
use native.Mathlib.Omega.{arith}
use Rattle.classes.proofs.MemberLaws.{bracket_end, bracket_name, bracket_single}
use Rattle.classes.proofs.PlainLaws.{plain_none, plain_part}
use Rattle.classes.proofs.members.read_bracket.Goals as goal

pub returns-then-q-eq0 : goal.returns-then-q-eq0
returns-then-q-eq0 c = (bracket_end _ c.if-q-eq0.true, plain_none _ _ _ (omega arith))

pub returns-then-q-eq58 : goal.returns-then-q-eq58
returns-then-q-eq58 c =
    (bracket_name _ _ c.if-q-eq0.false c.if-q-eq58.true c.read_name.ensures.0, plain_part _ 1 0 _ c.read_name.ensures.1)

pub returns : goal.returns
returns c =
    (bracket_single _ _ c.if-q-eq0.false c.if-q-eq58.false c.read_single.ensures.0, plain_none _ _ _ (omega (arith, c.read_single.ensures.1)))

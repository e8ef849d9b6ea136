-- `classnames::name_has` meets its contract: the byte's bit in the words of the name.
use native.Mathlib.Omega.{arith}
use borrow.Author.Rules.{rules}
use Rattle.classnames.specs.Names.{table, spans}
use Rattle.classnames.proofs.NameLaws.{named_bit, named_none}
use Rattle.classnames.proofs.name_has.Goals as goal

pub returns-in-Some : goal.returns-in-Some
unfolding table spans
returns-in-Some c = named_bit _ _ _ (omega (arith, c.in-Some.ensures)) (omega arith) (search rules)

pub returns-in-None : goal.returns-in-None
returns-in-None c = named_none _ _ (omega (arith, c.in-None.ensures.lookup))

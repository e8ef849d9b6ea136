-- `entries::subject::component_start` meets its contract: the last component stands after the last `/`, or is all.
use borrow.Author.Rules.{rules}
use Rattle.entries.proofs.ComponentLaws.{start_none, start_after_last}
use Rattle.entries.proofs.subject.component_start.Goals as goal
use mathlib.Core.Path.{sym}

pub returns-in-Some : goal.returns-in-Some
returns-in-Some c = sym (start_after_last c.args.entry.now c.in-Some.slash (search rules) (search rules) (search rules))

pub returns-in-None : goal.returns-in-None
returns-in-None c = sym (start_none c.args.entry.now (search rules))

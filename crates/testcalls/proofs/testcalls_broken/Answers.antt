-- `testcalls::testcalls_broken` meets its contract: no place, or the one that was found.
use mathlib.Core.Path.{sym}
use Rattle.testcalls.proofs.PutLaws.{no_place, one_place}
use Rattle.testcalls.proofs.testcalls_broken.Goals as goal

pub returns-in-None : goal.returns-in-None
returns-in-None c = no_place _ _ (sym c.in-None.ensures)

pub returns-in-Some : goal.returns-in-Some
returns-in-Some c = one_place _ _ _ _ (sym c.in-Some.ensures) c.put.ensures

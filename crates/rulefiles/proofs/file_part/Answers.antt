-- `rulefiles::file_part` meets its contract: what of the file is in the buffer, or nothing.
use Rattle.std.proofs.Common.{rules}
use Rattle.rulefiles.proofs.PartLaws.{part_got, part_lost}
use Rattle.rulefiles.proofs.file_part.Goals as goal

pub returns-in-Some : goal.returns-in-Some
returns-in-Some c = let m = c.min.ensures in let g = c.in-Some.ensures.lookup in search (rules, part_got)

pub returns-in-None : goal.returns-in-None
returns-in-None c = let m = c.min.ensures in let g = c.in-None.ensures.lookup in search (rules, part_lost)

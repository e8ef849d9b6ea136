-- `entries::prefilter::ends_in` meets its contract: there is no last byte, or it is the same letter.
use native.Mathlib.Omega.{arith}
use Rattle.entries.proofs.PrefilterLaws.{taken_nil, taken_some}
use Rattle.entries.proofs.prefilter.ends_in.Goals as goal

pub returns-in-empty : goal.returns-in-empty
returns-in-empty c = taken_nil _ _ _ (omega arith)

pub returns-in-len1-up : goal.returns-in-len1-up
returns-in-len1-up c = taken_some _ _ _ _ (omega arith) c.same_letter.ensures

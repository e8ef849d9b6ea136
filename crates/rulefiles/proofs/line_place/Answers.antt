-- `rulefiles::line_place` meets its contract: the place is the two numbers.
use mathlib.Core.Path.{refl}
use Rattle.rulefiles.proofs.line_place.Goals as goal

pub returns : goal.returns
returns c = refl

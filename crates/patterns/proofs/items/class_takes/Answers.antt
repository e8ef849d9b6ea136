-- `patterns::items::class_takes` meets its contract: the class's test, `/` shut out first.
use mathlib.Core.Bool.{not}
use mathlib.Core.Path.{ap}
use Rattle.std.proofs.Common.{rules}
use Rattle.patterns.proofs.ItemLaws.{class_some}
use Rattle.patterns.proofs.items.class_takes.Goals as goal

pub returns : goal.returns
returns c = class_some _ _ _ _ c.in_ok-class.class _ c.is_inside.ensures (ap not c.if-not-is_inside.false) (search rules) c.then_some.ensures

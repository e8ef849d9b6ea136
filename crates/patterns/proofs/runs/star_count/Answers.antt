-- `patterns::runs::star_count` meets its contract: the stars stand before the first other byte, or the end.
use Rattle.patterns.proofs.RunLaws.{stars_found}
use Rattle.bytestrings.specs.Text.{char}
use lib.Dec.{eqb}
use mathlib.Core.Bool.{not}
use Rattle.std.proofs.Common.{rules, tests}
use Rattle.std.proofs.lemmas.Iterator.{YieldsList-from_slice}
use Rattle.std.proofs.lemmas.Iterator.Search.{position_from_yields_List}
use Rattle.patterns.proofs.runs.star_count.Goals as goal

pub returns : goal.returns
returns c = stars_found c.args.p.now c.position.result _
    (position_from_yields_List (λ x. not (eqb x (char "*"))) _ _ _ c.position.ensures.ran (YieldsList-from_slice c.args.p.now cc) (λ x b q k. search (rules, tests))) c.unwrap_or.ensures

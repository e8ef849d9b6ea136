-- The library's `any`, over the bytes.
use borrow.Author.Rules.{rules}
use borrow.Author.Tests.{tests}
use Rattle.std.proofs.lemmas.Iterator.{YieldsList-from_slice}
use Rattle.std.proofs.lemmas.Iterator.Search.{any_from_yields_List}
use Rattle.whichline.specs.Places.{control}
use Rattle.whichline.proofs.PlaceLaws.{none_control}
use Rattle.whichline.proofs.fields.is_text.Goals as goal

pub returns : goal.returns
returns c =
    none_control _ _ (any_from_yields_List control _ _ _ c.any.ensures.ran (YieldsList-from_slice c.args.s.now (cc)) (λ x b q k. search (rules, tests)))

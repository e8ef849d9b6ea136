-- `bytestrings::anybyte::any_of_two` meets its contract: the two parts cover all bytes.
use Rattle.bytestrings.proofs.AnyLaws.{any_first, any_last}
use Rattle.bytestrings.proofs.anybyte.any_of_two.Goals as goal

pub returns-then-any_of_all : goal.returns-then-any_of_all
returns-then-any_of_all g c = any_first _ _ g.row.N c.requires.0 c.requires.1 _ c.any_of_all.ensures c.if-any_of_all.true

pub returns-else-any_of_all : goal.returns-else-any_of_all
returns-else-any_of_all g c =
    any_last _ _ g.row.N c.requires.0 c.requires.1 _ c.any_of_all.ensures c.if-any_of_all.false _ c.any_of_all-else-any_of_all.ensures

-- `entries::prefilter::first_byte_excludes` meets its contract: it answers yes only for a literal that does not accept the first byte.
use borrow.Author.Rules.{rules}
use Rattle.entries.proofs.PrefilterLaws.{differs_none, differs_literal}
use Rattle.entries.proofs.prefilter.first_byte_excludes.Goals as goal

pub returns-in_default : goal.returns-in_default
returns-in_default c = differs_none _ _ _

pub returns-in_default-2 : goal.returns-in_default-2
returns-in_default-2 c = differs_none _ _ _

pub returns-else-not-same_letter : goal.returns-else-not-same_letter
returns-else-not-same_letter c = rw c.if-not-same_letter.false (differs_none _ _ _)

pub returns-then-not-same_letter : goal.returns-then-not-same_letter
returns-then-not-same_letter c = differs_literal _ _ _ _ _ (search rules) c.same_letter.ensures c.if-not-same_letter.true c.is_literal.ensures

-- `entries::text_matches` meets its contract: the first bytes differ, or the matcher is asked.
use Rattle.entries.proofs.PrefilterLaws.{text_differs}
use Rattle.entries.proofs.text_matches.Goals as goal

pub returns-else-not-first_byte_excludes : goal.returns-else-not-first_byte_excludes
returns-else-not-first_byte_excludes c = rw c.if-not-first_byte_excludes.false (text_differs _ _ _ _ c.first_byte_excludes.ensures c.if-not-first_byte_excludes.false)

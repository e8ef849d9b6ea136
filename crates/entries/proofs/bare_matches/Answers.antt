-- `entries::bare_matches` meets its contract: what the last byte excludes does not match.
use Rattle.entries.proofs.PrefilterLaws.{bare_excluded}
use Rattle.entries.proofs.bare_matches.Goals as goal

pub returns-else-not-last_byte_excludes : goal.returns-else-not-last_byte_excludes
returns-else-not-last_byte_excludes c = rw c.if-not-last_byte_excludes.false (bare_excluded _ _ _ c.last_byte_excludes.ensures c.if-not-last_byte_excludes.false)

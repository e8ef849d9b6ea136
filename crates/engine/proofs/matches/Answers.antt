-- `engine::matches` meets its contract: the outcome of the item matcher answers the whole pattern.
use Rattle.engine.proofs.OutcomeLaws.{answer_matched}
use Rattle.engine.proofs.matches.Goals as goal

pub returns-in-Matched : goal.returns-in-Matched
returns-in-Matched c = answer_matched _ _ _ _ c.match_items.ensures c.in-Matched.is

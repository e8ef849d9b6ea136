-- `rulefiles::line_end` meets its contract: a line ends at the next newline.
use Rattle.rulefiles.proofs.line_end.Goals as goal

pub returns : goal.returns
returns c = c.find_byte.ensures

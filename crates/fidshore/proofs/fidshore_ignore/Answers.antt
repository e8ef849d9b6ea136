-- `fidshore::fidshore_ignore` meets its contract: the code is the number of what the question answers over the one file.
use Rattle.answers.specs.Complete.{complete_ignore}
use Rattle.answers.proofs.CompleteLaws.{ignore_number}
use Rattle.fidshore.proofs.fidshore_ignore.Goals as goal

pub returns : goal.returns
returns c = record { answer = complete_ignore c.ignore.result; answered = c.ignore.ensures; coded = ignore_number _ _ c.ignore_code.ensures.decided c.ignore_code.ensures.refused }

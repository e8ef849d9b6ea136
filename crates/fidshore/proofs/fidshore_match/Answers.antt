-- `fidshore::fidshore_match` meets its contract: the code is that of what the matcher answers.
use Rattle.wildmatch.proofs.AnswerLaws.{code_given}
use Rattle.fidshore.proofs.fidshore_match.Goals as goal

pub returns : goal.returns
returns c = record { answer = c.wildmatch.result; answered = c.wildmatch.ensures; coded = code_given _ _ c.code_of.ensures.answered c.code_of.ensures.refused }

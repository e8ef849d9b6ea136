-- `testcalls::testcalls_match` meets its contract: the number is the code of what the matcher answers.
use Rattle.wildmatch.proofs.AnswerLaws.{code_given}
use Rattle.testcalls.proofs.testcalls_match.Goals as goal

pub returns : goal.returns
returns c =
    record { answer = c.wildmatch-answer.result; answered = c.wildmatch-answer.ensures; numbered = code_given _ _ c.code_of.ensures.answered c.code_of.ensures.refused; written = c.put_match.ensures }

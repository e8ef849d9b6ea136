-- `testcalls::testcalls_ignore` meets its contract: the number is that of what the question answers.
use Rattle.answers.specs.Complete.{complete_ignore}
use Rattle.answers.proofs.CompleteLaws.{ignore_number}
use Rattle.testcalls.proofs.testcalls_ignore.Goals as goal

pub returns : goal.returns
returns c =
    let coded = c.ignore_code.ensures in
    record { answer = complete_ignore c.ignore-answer.result; answered = c.ignore-answer.ensures; numbered = ignore_number _ _ coded.decided coded.refused; written = c.put_ignore.ensures }

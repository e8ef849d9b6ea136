-- `testcalls::testcalls_attribute` meets its contract: the number is that of what the question answers.
use Rattle.answers.specs.Complete.{complete_attribute}
use Rattle.answers.proofs.CompleteLaws.{attribute_number}
use Rattle.testcalls.proofs.testcalls_attribute.Goals as goal

pub returns : goal.returns
returns c =
    let coded = c.attribute_code.ensures in
    let numbered = attribute_number _ _ coded.decided coded.refused in
    record { answer = complete_attribute c.attribute-answer.result; answered = c.attribute-answer.ensures; numbered = numbered; written = c.put_attribute.ensures }

-- `entries::Subject::of` meets its contract: what follows the last `/` is the last component.
use Rattle.entries.proofs.SubjectLaws.{subject-whole}
use Rattle.entries.proofs.subject.Subject.of.Goals as goal

pub returns : goal.returns
returns c = subject-whole _ _ _ _ c.component_start.ensures

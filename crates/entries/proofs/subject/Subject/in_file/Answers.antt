-- `entries::Subject::in_file` meets its contract: the file applies where the entry is longer than its base.
use Rattle.entries.specs.Entries.{subject_in}
use Rattle.entries.proofs.SubjectLaws.{in_file_some}
use Rattle.entries.proofs.subject.Subject.in_file.Goals as goal

pub returns-then-base-self : goal.returns-then-base-self
returns-then-base-self c = in_file_some c.args.base (subject_in c.args.self.now) c.if-base-self.true

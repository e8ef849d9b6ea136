-- `verdicts::scan::last_decision` meets its contract: the decision before a file is overridden by that of the files from there on; the subject differs from the whole entry in its rest alone.
use mathlib.Core.Path.{◌≡◌}
use Rattle.entries.specs.Entries.{against, subject_in}
use Rattle.rulefiles.specs.RuleFiles.{files_from, lines_of_all, ordered_lines}
use Rattle.rulefiles.specs.Decisions.{override, last_decision}
use Rattle.verdicts.specs.inner.Scan.{effect_on}
use Rattle.verdicts.proofs.VerdictLaws.{entry_of}
use Rattle.verdicts.proofs.scan.last_decision.Given as goal

abbrev pub invariant-loop-file : goal.invariant-loop-file
invariant-loop-file g l =
    let effect = effect_on (g.R.LineRule.says l.rule) l.fold (entry_of l.entry l.directory) in
    let files = l.files in
    let left = l.file-iterator in
    (last_decision effect (ordered_lines files.rules.now files.ends.now files.bases.now)
    ≡ override l.last (last_decision effect (lines_of_all (files_from left.count l.start files.rules.now left.iter.a.rest.now left.iter.b.rest.now))))
    × (against l.whole.rest.now l.subject.component.now l.subject.directory l.subject.fold ≡ subject_in l.whole)

-- `verdicts::topdown::judge_path` meets its contract: the first ignored parent answers, else the path itself.
use mathlib.Core.Path.{ap, ◌∙◌}
use Rattle.std.specs.Prelude.{None, Some}
use lib.ListN.{length}
use Rattle.answers.specs.Complete.{complete_ignore}
use Rattle.rulefiles.specs.RuleFiles.{ordered_lines}
use Rattle.verdicts.specs.Verdicts.{verdict, parents, judged}
use Rattle.verdicts.proofs.VerdictLaws.{entry_of}
use Rattle.verdicts.proofs.ParentLaws.{top_down_by}
use Rattle.verdicts.proofs.topdown.judge_path.Goals as goal

pub returns-in-Some : goal.returns-in-Some
unfolding complete_ignore
returns-in-Some c =
    let files = c.args.files.now in
    top_down_by (verdict c.args.fold (ordered_lines files.rules.now files.ends.now files.bases.now)) (parents c.args.path.now) (entry_of c.args.path.now c.args.directory)
    (Some c.in-Some.d) c.in-Some.ensures

pub returns-in-None : goal.returns-in-None
returns-in-None c =
    let files = c.args.files.now in
    c.judge.ensures ∙ ap (judged (length c.args.path.now)) c.entry_verdict.ensures
    ∙ top_down_by (verdict c.args.fold (ordered_lines files.rules.now files.ends.now files.bases.now)) (parents c.args.path.now) (entry_of c.args.path.now c.args.directory)
    None c.in-None.ensures

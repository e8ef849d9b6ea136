-- `questionrefusals::rules::line_long` meets its contract. The files not yet passed decide.
use Rattle.std.proofs.Common.{length, drop}
use mathlib.Core.Logic.{◌↔◌}
use Rattle.questionrefusals.specs.Conditions.{LongLine}
use Rattle.questionrefusals.proofs.LongLaws.{LongFiles}
use Rattle.rulefiles.specs.RuleFiles.{files_from}
use Rattle.questionrefusals.proofs.rules.line_long.Given as goal

abbrev pub invariant-loop-end : goal.invariant-loop-end
invariant-loop-end l =
    let f = l.files in
    LongLine f.rules.now f.ends.now f.bases.now
    ↔ LongFiles (files_from (length l.yielded) l.start f.rules.now (drop (length l.yielded) f.ends.now) (drop (length l.yielded) f.bases.now))

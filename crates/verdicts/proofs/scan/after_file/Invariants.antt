-- `verdicts::scan::after_file` meets its contract: the decision before a line is overridden by that of the lines from there on.
use Prim.Native.Nat.{◌+◌, ◌-◌, ◌≤◌}
use mathlib.Core.Path.{◌≡◌}
use lib.ListN.{length, drop}
use Rattle.entries.specs.Entries.{subject_in}
use Rattle.rulefiles.specs.RuleFiles.{split}
use Rattle.rulefiles.specs.Decisions.{override}
use Rattle.verdicts.specs.inner.Scan.{last_in, last_in_file}
use Rattle.verdicts.proofs.scan.after_file.Given as goal

abbrev pub invariant-loop-i : goal.invariant-loop-i
invariant-loop-i g l =
    let says = g.R.LineRule.says l.rule (subject_in l.subject) in
    (l.line ≤ l.i + 1) × (override l.initial.last (last_in_file says l.file l.upto l.start) ≡ override l.last (last_in says l.file l.line l.i (split (drop l.i l.upto))))

abbrev pub decreases-loop-i : goal.decreases-loop-i
decreases-loop-i g l = length l.upto - l.i

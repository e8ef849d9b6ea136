-- `ignorelines::line_effect` meets its contract: the line is skipped, or its rule has the effect.
use native.Mathlib.Omega.{arith}
use mathlib.Core.Path.{sym}
use mathlib.Core.Bool.{false}
use lib.Seq.{length-take-le}
use Rattle.ignorelines.proofs.LineLaws.{line_empty, line_comment, line_rule, kept_fits}
use Rattle.ignorelines.proofs.line_effect.Goals as goal

pub returns-in-empty : goal.returns-in-empty
returns-in-empty c = line_empty _ _ _ c.without_cr.ensures (omega arith)

pub returns-in-empty-2 : goal.returns-in-empty-2
returns-in-empty-2 c = line_comment _ _ _ c.without_cr.ensures (omega arith) (omega arith)

pub slice_bounds-rule_effect-end : goal.slice_bounds-rule_effect-end
slice_bounds-rule_effect-end c =
    sym (length-take-le _ _ (omega (arith, c.kept_length.ensures, kept_fits false c.without_cr.result.now)))

pub returns-in_default : goal.returns-in_default
returns-in_default c = line_rule _ _ _ _ _ c.without_cr.ensures (omega arith) (omega arith) c.kept_length.ensures c.rule_effect.ensures

-- `ignorelines::rule_effect` meets its contract: the pattern starts after the `!`, if there is one.
use native.Mathlib.Omega.{arith}
use Rattle.ignorelines.proofs.LineLaws.{rule_negated, rule_plain}
use Rattle.ignorelines.proofs.rule_effect.Goals as goal

pub returns-in-33 : goal.returns-in-33
returns-in-33 c = rw (c.then_some.ensures, c.pattern_matches.ensures) (rule_negated _ _ (omega arith) (omega arith))

pub returns-in_default : goal.returns-in_default
returns-in_default c = rw (c.then_some-in_default.ensures, c.pattern_matches-in_default.ensures) (rule_plain _ _ (λ l e. grind arith))

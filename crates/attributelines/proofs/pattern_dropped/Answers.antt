-- `attributelines::pattern_dropped` meets its contract: by the first byte, else a definition.
use native.Mathlib.Omega.{arith}
use Rattle.attributelines.proofs.MentionLaws.{dropped_sign, dropped_plain}
use Rattle.attributelines.proofs.pattern_dropped.Goals as goal

pub returns-in-35 : goal.returns-in-35
returns-in-35 c = dropped_sign _ c.in-35.len_at_least (λ h k. grind arith)

pub returns-in_default : goal.returns-in_default
returns-in_default c = dropped_plain _ _ (λ l e. grind arith) (λ l e. grind arith) (λ l e. grind arith) c.is_definition.ensures

-- `entries::without_first_slash` meets its contract: the pattern begins with a `/`, or not.
use native.Mathlib.Omega.{arith}
use Rattle.entries.proofs.PatternLaws.{slash_first, slash_not_first}
use Rattle.entries.proofs.without_first_slash.Goals as goal

pub returns-in-47 : goal.returns-in-47
returns-in-47 c = slash_first _ c.in-47.len_at_least (omega arith)

pub returns-in_default : goal.returns-in_default
returns-in_default c = slash_not_first _ (λ l e. grind arith)

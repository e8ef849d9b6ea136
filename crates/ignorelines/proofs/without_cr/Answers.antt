-- `ignorelines::without_cr` meets its contract: the last byte is a CR, or not.
use native.Mathlib.Omega.{arith}
use Rattle.ignorelines.proofs.LineLaws.{cr_dropped, cr_none}
use Rattle.ignorelines.proofs.without_cr.Goals as goal

pub returns-in-13 : goal.returns-in-13
returns-in-13 c = cr_dropped _ (omega arith) (omega arith)

pub returns-in_default : goal.returns-in_default
returns-in_default c = cr_none _ (λ l e. grind arith)

pub returns-in_default-2 : goal.returns-in_default-2
returns-in_default-2 c = cr_none _ (λ l e. grind arith)

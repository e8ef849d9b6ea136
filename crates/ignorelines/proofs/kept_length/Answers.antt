-- `ignorelines::kept_length` meets its contract: a line that ends in no space keeps all its bytes.
use native.Mathlib.Omega.{arith}
use Rattle.ignorelines.proofs.LineLaws.{kept_all}
use Rattle.ignorelines.proofs.kept_length.Goals as goal

pub returns-in_default : goal.returns-in_default
returns-in_default c = kept_all _ (λ l e. grind arith)

pub returns-in_default-2 : goal.returns-in_default-2
returns-in_default-2 c = kept_all _ (λ l e. grind arith)

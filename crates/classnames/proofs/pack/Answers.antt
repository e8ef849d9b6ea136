-- `classnames::pack` meets its contract: the bytes in the order of the number's.
use native.Mathlib.Omega.{arith}
use Rattle.classnames.proofs.PackLaws.{five_packed, six_packed, not_name}
use Rattle.classnames.proofs.pack.Goals as goal

pub returns-in-len5 : goal.returns-in-len5
returns-in-len5 c = five_packed c.args.name.now _ c.in-len5.len_at_least c.in-len5.len_below c.from_le_bytes.ensures

pub returns-in-len6 : goal.returns-in-len6
returns-in-len6 c = six_packed c.args.name.now _ c.in-len6.len_at_least c.in-len6.len_below c.from_le_bytes-in-len6.ensures

pub returns-in_default : goal.returns-in_default
returns-in_default c = not_name _ (λ e. omega (arith, c.in_default.len_below)) (λ e. omega (arith, c.in_default.len_below))

pub returns-in_default-2 : goal.returns-in_default-2
returns-in_default-2 c = not_name _ (λ e. omega (arith, c.in_default.len_at_least)) (λ e. omega (arith, c.in_default.len_at_least))

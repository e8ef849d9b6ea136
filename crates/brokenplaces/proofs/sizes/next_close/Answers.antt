-- `brokenplaces::sizes::next_close` meets its contract: a `]` from `from` on is the next one, else it is searched from there.
use mathlib.Core.Path.{◌∙◌}
use native.Mathlib.Nat.{zero-add}
use native.Mathlib.Omega.{arith}
use Rattle.classes.specs.Members.{until_close}
use Rattle.brokenplaces.proofs.MeasureLaws.{close-from}
use Rattle.brokenplaces.proofs.sizes.next_close.Goals as goal

pub returns-then-from-known : goal.returns-then-from-known
returns-then-from-known c = c.requires.1 (omega arith)

pub overflow_add-result : goal.overflow_add-result
unfolding until_close
overflow_add-result c =
    let h = close-from c.args.q.now c.args.from _ (omega arith) (c.find_byte.ensures ∙ zero-add _) in
    omega arith

pub returns : goal.returns
unfolding until_close
returns c =
    let h = close-from c.args.q.now c.args.from _ (omega arith) (c.find_byte.ensures ∙ zero-add _) in
    omega arith

-- `verdicts::lines::content_start` meets its contract: the file starts in the rules, or past them.
use native.Mathlib.Omega.{arith}
use lib.ListN.{length, take, drop}
use Prim.Native.Nat.{◌-◌}
use Rattle.verdicts.proofs.ScanLaws.{bom-small, content_inside, content_past}
use Rattle.verdicts.proofs.lines.content_start.Goals as goal

pub overflow_add-result : goal.overflow_add-result
overflow_add-result c =
    let s = c.args.upto.now in
    let at = c.args.start in
    omega (arith, c.bom_length.ensures, bom-small (take (length s - at) (drop at s)))

pub returns-then-start-upto : goal.returns-then-start-upto
returns-then-start-upto c = content_inside _ _ _ c.bom_length.ensures

pub returns : goal.returns
returns c = content_past _ _ c.if-start-upto.false

use Rattle.std.proofs.Common.{arith, sym, ◌∙◌}
use Rattle.paths.proofs.ComponentLaws.{slash_within, slash_bad}
use Rattle.paths.proofs.bad_later.Goals as goal

pub overflow_add-rest : goal.overflow_add-rest
overflow_add-rest c = omega (arith, slash_within c.loop-slash.rest.now c.first_place.result c.first_place.ensures c.in-Some.slash c.in-Some.is)

pub returns-then-bad_here : goal.returns-then-bad_here
returns-then-bad_here c =
    sym (c.loop-slash.invariant.1 ∙ slash_bad _ _ c.first_place.ensures c.in-Some.slash c.in-Some.is _ c.bad_here.ensures c.if-bad_here.true)

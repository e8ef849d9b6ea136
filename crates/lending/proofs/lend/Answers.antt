use mathlib.Core.Path.{◌∙◌}
use mathlib.Core.Logic.{⊎_elim, inl, inr}
use borrow.Author.Rules.{rules}
use Rattle.lending.specs.inner.Room.{Within}
use Rattle.lending.proofs.LendLaws.{all_pending, nothing_pending, taken_holds, turn_full, turn_done}
use Rattle.lending.proofs.lend.Goals as goal

pub loop-i-init : goal.loop-i-init
unfolding Within
loop-i-init c = let from = c.into_iter-i-iterator.result in record {
  pending = all_pending _ _ _ c.args.directories.ends.now c.args.files.ends.now from.count from.iter.b.rest.now from.iter.a.rest.now _ (cc) (cc) (cc);
  within = search rules;
  same_buffers = search rules;
}

pub returns-in_err-lent-clause-lends : goal.returns-in_err-lent-clause-lends
returns-in_err-lent-clause-lends c =
    let steps = c.in-Some.ensures.steps in
    turn_full _ _ _ _ _ _ _ _ _ _ _ _ _ _ _ _ _ _ _ _ c.loop-i.invariant.pending steps.0.0 steps.0.1 steps.1 steps.2 c.file_part-directory.ensures c.file_part-file.ensures
    c.lend_file.ensures.lends _ c.in_err-lent.was _ c.from_residual.ensures.0

pub loop-i-preserved : goal.loop-i-preserved
loop-i-preserved c =
    let steps = c.in-Some.ensures.steps in
    let turn = turn_done _ _ _ _ _ _ _ _ _ _ _ _ _ _ _ _ _ _ _ _ c.loop-i.invariant.pending steps.0.0 steps.0.1 steps.1 steps.2 c.file_part-directory.ensures c.file_part-file.ensures
    c.lend_file.ensures.lends _ c.in_ok-lent.was in
    record { pending = turn.0; within = turn.1; same_buffers = search rules }

pub returns-clause-lends : goal.returns-clause-lends
returns-clause-lends c =
    let none = ⊎_elim (λ x. inl x.1.0) (λ x. inr x.1.0) c.in-None.ensures.steps.0 in
    taken_holds _ _ _ c.loop-i.invariant.within (c.loop-i.invariant.pending ∙ nothing_pending _ _ _ _ _ _ _ _ _ none)

-- `engine::runkind::classify_run` meets its contract.
use Rattle.engine.proofs.RunKindLaws.{leads_plain, leads_within, leads_all, leads_slash, leads_escaped, starts_at, starts_not}
use Rattle.engine.proofs.MatcherLaws.{run_fits}
use mathlib.Core.Path.{◌∙◌, sym}
use borrow.Author.Tests.{not-true, not-false}
use native.Mathlib.Omega.{arith}
use Rattle.engine.proofs.runkind.classify_run.Goals as goal
use Rattle.engine.proofs.runkind.classify_run.Goals.{then-not-m-via-then-not-m, then-not-m-via-else-not-m+then-not-run_crosses}

pub slice_bounds-rest-count : goal.slice_bounds-rest-count
slice_bounds-rest-count c =
    let h = run_fits _ _ c.requires.1 c.star_count-n.ensures in
    omega arith

pub slice_bounds-rest-start : goal.slice_bounds-rest-start
slice_bounds-rest-start c =
    let h = run_fits _ _ c.requires.1 c.star_count-n.ensures in
    omega arith

pub returns-then-not-m : goal.returns-then-not-m
returns-then-not-m c =
    elim c.then-not-m.branch [
      | then-not-m-via-then-not-m w ↦ leads_plain _ _ _ _ c.requires.0 c.requires.1 c.star_count-n.ensures (not-true _ w.if-not-m.true)
      | then-not-m-via-else-not-m+then-not-run_crosses w ↦ leads_within _ _ _ _ c.requires.0 c.requires.1 c.star_count-n.ensures (sym w.run_crosses.ensures ∙ w.if-not-run_crosses.true)
    ]

pub returns-in-empty : goal.returns-in-empty
returns-in-empty c =
    leads_all _ _ _ _ c.requires.0 c.requires.1 c.star_count-n.ensures (sym c.run_crosses.ensures ∙ c.if-not-run_crosses.false) (omega arith)

pub returns-in-47 : goal.returns-in-47
returns-in-47 c =
    leads_slash _ _ _ _ c.requires.0 c.requires.1 c.star_count-n.ensures (not-false _ c.if-not-m.false) (sym c.run_crosses.ensures ∙ c.if-not-run_crosses.false)
    (starts_at _ (omega arith) (omega arith))

pub returns-in_default : goal.returns-in_default
returns-in_default c =
    leads_escaped _ _ _ _ c.requires.0 c.requires.1 c.star_count-n.ensures (sym c.run_crosses.ensures ∙ c.if-not-run_crosses.false) (λ e. omega arith)
    (starts_not _ (λ e. omega arith))

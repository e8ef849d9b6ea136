use Rattle.engine.proofs.CrossLaws.{cross_begin, cross_next, cross_matched, cross_decides, cross_end, cross_failed, cross_within}
use Rattle.engine.proofs.MatcherLaws.{means_is, stops_is, skipped-later, next_later}
use Rattle.engine.proofs.ReachLaws.{reach_begin, reach_fits, reach-whole, reach_short, reach-failed, reach_end, reach_stop, reach_next, reach-run_fits}
use Rattle.engine.proofs.ReachLaws.{reach_star, reach_all, reach_slash, reach-within, leads_fits, leads_slash_fits, leads_is, left_falls}
use Prim.Native.Nat.{◌+◌}
use mathlib.Core.Path.{◌∙◌, sym}
use lib.ListN.{length-take, length-drop}
use native.Mathlib.Omega.{arith}
use Rattle.engine.proofs.matcher.+match_crossing_match_items.Goals as goal
use Rattle.engine.proofs.matcher.+match_crossing_match_items.Goals.{match_crossing-in-NoMatch, match_crossing-in-AbortToStarStar}

pub match_crossing-loop-k-init : goal.match_crossing-loop-k-init
match_crossing-loop-k-init t c = cross_begin _ _ _ _ _ c.first_place-k.ensures

pub match_crossing-slice_bounds-match_items-count : goal.match_crossing-slice_bounds-match_items-count
match_crossing-slice_bounds-match_items-count t c = omega arith

pub match_crossing-slice_bounds-match_items-start : goal.match_crossing-slice_bounds-match_items-start
match_crossing-slice_bounds-match_items-start t c = omega arith

pub match_crossing-match_items-requires : goal.match_crossing-match_items-requires
match_crossing-match_items-requires t c = simp (length-take, length-drop) (omega arith)

pub match_crossing-returns-in-Matched : goal.match_crossing-returns-in-Matched
match_crossing-returns-in-Matched t c =
    cross_matched _ _ _ _ _ c.loop-k.invariant c.loop-k-test.true (means_is _ _ _ _ _ _ c.in-Matched.is c.match_items.ensures)

pub match_crossing-returns-in-AbortAll : goal.match_crossing-returns-in-AbortAll
match_crossing-returns-in-AbortAll t c =
    cross_decides _ _ _ _ _ c.loop-k.invariant c.loop-k-test.true (means_is _ _ _ _ _ _ c.in-AbortAll.is c.match_items.ensures)

pub match_crossing-after_slash-k-requires : goal.match_crossing-after_slash-k-requires
match_crossing-after_slash-k-requires t c = omega arith

pub match_crossing-loop-k-smaller : goal.match_crossing-loop-k-smaller
match_crossing-loop-k-smaller t c = let h = next_later _ _ _ c.after_slash-k.ensures in omega arith

pub match_crossing-loop-k-preserved : goal.match_crossing-loop-k-preserved
match_crossing-loop-k-preserved t c =
    cross_next _ _ _ _ _ _ c.loop-k.invariant
    (elim c.match-match_items.branch [
      | match_crossing-in-NoMatch w ↦ cross_failed _ _ c.args.t.now c.loop-k.k (means_is _ _ _ _ _ _ w.in-NoMatch.is c.match_items.ensures)
      | match_crossing-in-AbortToStarStar w ↦ cross_within _ _ c.args.t.now c.loop-k.k (means_is _ _ _ _ _ _ w.in-AbortToStarStar.is c.match_items.ensures)
    ])
    c.after_slash-k.ensures

pub match_crossing-returns : goal.match_crossing-returns
match_crossing-returns t c = cross_end _ _ _ _ _ c.loop-k.invariant c.loop-k-test.false

pub match_items-loop-k-init : goal.match_items-loop-k-init
match_items-loop-k-init t c = reach_begin _ _ _ _

pub match_items-slice_bounds-match_segment-count : goal.match_items-slice_bounds-match_segment-count
match_items-slice_bounds-match_segment-count t c = (reach_fits _ _ _ _ _ _ _ c.loop-k.invariant).0

pub match_items-slice_bounds-match_segment-start : goal.match_items-slice_bounds-match_segment-start
match_items-slice_bounds-match_segment-start t c = (reach_fits _ _ _ _ _ _ _ c.loop-k.invariant).0

pub match_items-slice_bounds-match_segment-count-in-loop-k : goal.match_items-slice_bounds-match_segment-count-in-loop-k
match_items-slice_bounds-match_segment-count-in-loop-k t c = (reach_fits _ _ _ _ _ _ _ c.loop-k.invariant).1

pub match_items-slice_bounds-match_segment-start-in-loop-k : goal.match_items-slice_bounds-match_segment-start-in-loop-k
match_items-slice_bounds-match_segment-start-in-loop-k t c = (reach_fits _ _ _ _ _ _ _ c.loop-k.invariant).1

pub match_items-returns-in-Whole : goal.match_items-returns-in-Whole
match_items-returns-in-Whole t c =
    reach-whole _ _ _ _ _ _ _ c.loop-k.invariant (stops_is _ _ _ _ _ c.in-Whole.is c.match_segment.ensures)

pub match_items-returns-in-TooShort : goal.match_items-returns-in-TooShort
match_items-returns-in-TooShort t c =
    reach_short _ _ _ _ _ _ _ c.loop-k.invariant (stops_is _ _ _ _ _ c.in-TooShort.is c.match_segment.ensures)

pub match_items-returns-then-not-slides : goal.match_items-returns-then-not-slides
match_items-returns-then-not-slides t c =
    reach-failed _ _ _ _ _ _ _ c.loop-k.invariant (stops_is _ _ _ _ _ c.in-Mismatch.is c.match_segment.ensures) c.if-not-slides.true

pub match_items-returns-then-t-k : goal.match_items-returns-then-t-k
match_items-returns-then-t-k t c =
    reach_end _ _ _ _ _ _ _ c.loop-k.invariant (stops_is _ _ _ _ _ c.in-Mismatch.is c.match_segment.ensures) c.if-not-slides.false c.if-t-k.true

pub match_items-bounds-t-k : goal.match_items-bounds-t-k
match_items-bounds-t-k t c = omega arith

pub match_items-returns-then-not-is_inside : goal.match_items-returns-then-not-is_inside
match_items-returns-then-not-is_inside t c =
    reach_stop _ _ _ _ _ _ _ c.loop-k.invariant (stops_is _ _ _ _ _ c.in-Mismatch.is c.match_segment.ensures) c.if-not-slides.false
    (sym c.is_inside.ensures ∙ c.if-not-is_inside.true)

pub match_items-slice_bounds-skip_to-count : goal.match_items-slice_bounds-skip_to-count
match_items-slice_bounds-skip_to-count t c =
    (reach_fits _ _ _ _ _ _ _ c.loop-k.invariant).0

pub match_items-slice_bounds-skip_to-start : goal.match_items-slice_bounds-skip_to-start
match_items-slice_bounds-skip_to-start t c =
    (reach_fits _ _ _ _ _ _ _ c.loop-k.invariant).0

pub match_items-overflow_add-k : goal.match_items-overflow_add-k
match_items-overflow_add-k t c = omega arith

pub match_items-skip_to-k-requires : goal.match_items-skip_to-k-requires
match_items-skip_to-k-requires t c = omega arith

pub match_items-loop-k-smaller-in-Mismatch : goal.match_items-loop-k-smaller-in-Mismatch
match_items-loop-k-smaller-in-Mismatch t c = let h = skipped-later _ _ _ _ _ c.skip_to-k.ensures in omega arith

pub match_items-loop-k-preserved-in-Mismatch : goal.match_items-loop-k-preserved-in-Mismatch
match_items-loop-k-preserved-in-Mismatch t c =
    reach_next _ _ _ _ _ _ _ c.loop-k.invariant _ (stops_is _ _ _ _ _ c.in-Mismatch.is c.match_segment.ensures) c.if-not-slides.false
    c.if-t-k.false (sym c.is_inside.ensures ∙ c.if-not-is_inside.false) c.skip_to-k.ensures

pub match_items-overflow_add-at : goal.match_items-overflow_add-at
match_items-overflow_add-at t c =
    let h = reach-run_fits _ _ _ _ _ _ _ c.loop-k.invariant _ _ (stops_is _ _ _ _ _ c.in-Run.is c.match_segment.ensures) in
    omega arith

pub match_items-slice_bounds-classify_run-count : goal.match_items-slice_bounds-classify_run-count
match_items-slice_bounds-classify_run-count t c =
    let h = reach-run_fits _ _ _ _ _ _ _ c.loop-k.invariant _ _ (stops_is _ _ _ _ _ c.in-Run.is c.match_segment.ensures) in
    omega arith

pub match_items-slice_bounds-classify_run-start : goal.match_items-slice_bounds-classify_run-start
match_items-slice_bounds-classify_run-start t c =
    let h = reach-run_fits _ _ _ _ _ _ _ c.loop-k.invariant _ _ (stops_is _ _ _ _ _ c.in-Run.is c.match_segment.ensures) in
    omega arith

pub match_items-follows_slash-requires : goal.match_items-follows_slash-requires
match_items-follows_slash-requires t c =
    let h = reach-run_fits _ _ _ _ _ _ _ c.loop-k.invariant _ _ (stops_is _ _ _ _ _ c.in-Run.is c.match_segment.ensures) in
    omega arith

pub match_items-classify_run-requires : goal.match_items-classify_run-requires
match_items-classify_run-requires t c =
    reach_star _ _ _ _ _ _ _ c.loop-k.invariant _ _ (stops_is _ _ _ _ _ c.in-Run.is c.match_segment.ensures)

pub match_items-overflow_add-a : goal.match_items-overflow_add-a
match_items-overflow_add-a t c =
    let h = rw (length-take, length-drop) at (leads_fits _ _ _ _ (leads_is _ _ _ _ _ c.in-Within.is c.classify_run.ensures)).1 in
    let g = reach-run_fits _ _ _ _ _ _ _ c.loop-k.invariant _ _ (stops_is _ _ _ _ _ c.in-Run.is c.match_segment.ensures) in
    omega arith

pub match_items-returns-in-All : goal.match_items-returns-in-All
match_items-returns-in-All t c =
    reach_all _ _ _ _ _ _ _ c.loop-k.invariant _ _ (stops_is _ _ _ _ _ c.in-Run.is c.match_segment.ensures)
    _ c.follows_slash.ensures (leads_is _ _ _ _ _ c.in-All.is c.classify_run.ensures)

pub match_items-overflow_add-at-in-ToSlash : goal.match_items-overflow_add-at-in-ToSlash
match_items-overflow_add-at-in-ToSlash t c =
    let h = rw (length-take, length-drop) at (leads_slash_fits _ _ _ _ _ (leads_is _ _ _ _ _ c.in-ToSlash.is c.classify_run.ensures)).1 in
    let g = reach-run_fits _ _ _ _ _ _ _ c.loop-k.invariant _ _ (stops_is _ _ _ _ _ c.in-Run.is c.match_segment.ensures) in
    omega arith

pub match_items-slice_bounds-match_crossing-count : goal.match_items-slice_bounds-match_crossing-count
match_items-slice_bounds-match_crossing-count t c =
    let h = rw (length-take, length-drop) at (leads_slash_fits _ _ _ _ _ (leads_is _ _ _ _ _ c.in-ToSlash.is c.classify_run.ensures)).1 in
    let g = reach-run_fits _ _ _ _ _ _ _ c.loop-k.invariant _ _ (stops_is _ _ _ _ _ c.in-Run.is c.match_segment.ensures) in
    omega arith

pub match_items-slice_bounds-match_crossing-start : goal.match_items-slice_bounds-match_crossing-start
match_items-slice_bounds-match_crossing-start t c =
    let h = rw (length-take, length-drop) at (leads_slash_fits _ _ _ _ _ (leads_is _ _ _ _ _ c.in-ToSlash.is c.classify_run.ensures)).1 in
    let g = reach-run_fits _ _ _ _ _ _ _ c.loop-k.invariant _ _ (stops_is _ _ _ _ _ c.in-Run.is c.match_segment.ensures) in
    omega arith

pub match_items-overflow_add-k-in-ToSlash : goal.match_items-overflow_add-k-in-ToSlash
match_items-overflow_add-k-in-ToSlash t c =
    let g = (
    reach-run_fits _ _ _ _ _ _ _ c.loop-k.invariant _ _ (stops_is _ _ _ _ _ c.in-Run.is c.match_segment.ensures)) in
    omega arith

pub match_items-slice_bounds-match_crossing-count-in-ToSlash : goal.match_items-slice_bounds-match_crossing-count-in-ToSlash
match_items-slice_bounds-match_crossing-count-in-ToSlash t c =
    let g = reach-run_fits _ _ _ _ _ _ _ c.loop-k.invariant _ _ (stops_is _ _ _ _ _ c.in-Run.is c.match_segment.ensures) in
    omega arith

pub match_items-slice_bounds-match_crossing-start-in-ToSlash : goal.match_items-slice_bounds-match_crossing-start-in-ToSlash
match_items-slice_bounds-match_crossing-start-in-ToSlash t c =
    let g = reach-run_fits _ _ _ _ _ _ _ c.loop-k.invariant _ _ (stops_is _ _ _ _ _ c.in-Run.is c.match_segment.ensures) in
    omega arith

pub match_items-match_crossing-requires : goal.match_items-match_crossing-requires
match_items-match_crossing-requires t c =
    let h = leads_slash_fits _ _ _ _ _ (leads_is _ _ _ _ _ c.in-ToSlash.is c.classify_run.ensures) in
    let q = rw (length-take, length-drop) at h.1 in
    let g = reach-run_fits _ _ _ _ _ _ _ c.loop-k.invariant _ _ (stops_is _ _ _ _ _ c.in-Run.is c.match_segment.ensures) in
    let w = left_falls c.args.p.now c.args.t.now (c.loop-k.a + c.in-Run.i + c.in-ToSlash.n) (c.loop-k.k + c.in-Run.j)
    (omega (arith, h.0)) (omega (arith, q, g.0)) in
    (rw c.decreases at w, tt)

pub match_items-returns-in-ToSlash : goal.match_items-returns-in-ToSlash
match_items-returns-in-ToSlash t c =
    reach_slash _ _ _ _ _ _ _ c.loop-k.invariant _ _ (stops_is _ _ _ _ _ c.in-Run.is c.match_segment.ensures) _ _ _
    _ c.follows_slash.ensures (leads_is _ _ _ _ _ c.in-ToSlash.is c.classify_run.ensures) c.match_crossing.ensures

pub match_items-slice_bounds-skip_to-count-in-Run : goal.match_items-slice_bounds-skip_to-count-in-Run
match_items-slice_bounds-skip_to-count-in-Run t c =
    let h = rw (length-take, length-drop) at (leads_fits _ _ _ _ (leads_is _ _ _ _ _ c.in-Within.is c.classify_run.ensures)).1 in
    let g = reach-run_fits _ _ _ _ _ _ _ c.loop-k.invariant _ _ (stops_is _ _ _ _ _ c.in-Run.is c.match_segment.ensures) in
    omega arith

pub match_items-slice_bounds-skip_to-start-in-Run : goal.match_items-slice_bounds-skip_to-start-in-Run
match_items-slice_bounds-skip_to-start-in-Run t c =
    let h = rw (length-take, length-drop) at (leads_fits _ _ _ _ (leads_is _ _ _ _ _ c.in-Within.is c.classify_run.ensures)).1 in
    let g = reach-run_fits _ _ _ _ _ _ _ c.loop-k.invariant _ _ (stops_is _ _ _ _ _ c.in-Run.is c.match_segment.ensures) in
    omega arith

pub match_items-overflow_add-k-in-Run : goal.match_items-overflow_add-k-in-Run
match_items-overflow_add-k-in-Run t c =
    let g = (
    reach-run_fits _ _ _ _ _ _ _ c.loop-k.invariant _ _ (stops_is _ _ _ _ _ c.in-Run.is c.match_segment.ensures)) in
    omega arith

pub match_items-skip_to-k-requires-in-Run : goal.match_items-skip_to-k-requires-in-Run
match_items-skip_to-k-requires-in-Run t c =
    let g = reach-run_fits _ _ _ _ _ _ _ c.loop-k.invariant _ _ (stops_is _ _ _ _ _ c.in-Run.is c.match_segment.ensures) in
    omega arith

pub match_items-loop-k-smaller : goal.match_items-loop-k-smaller
match_items-loop-k-smaller t c =
    let w = leads_fits _ _ _ _ (leads_is _ _ _ _ _ c.in-Within.is c.classify_run.ensures) in
    let q = rw (length-take, length-drop) at (leads_fits _ _ _ _ (leads_is _ _ _ _ _ c.in-Within.is c.classify_run.ensures)).1 in
    let h = skipped-later _ _ _ _ _ c.skip_to-k-in-Run.ensures in
    let g = reach-run_fits _ _ _ _ _ _ _ c.loop-k.invariant _ _ (stops_is _ _ _ _ _ c.in-Run.is c.match_segment.ensures) in
    omega arith

pub match_items-loop-k-preserved : goal.match_items-loop-k-preserved
match_items-loop-k-preserved t c =
    reach-within _ _ _ _ _ _ _ c.loop-k.invariant _ _ (stops_is _ _ _ _ _ c.in-Run.is c.match_segment.ensures) _ _
    _ c.follows_slash.ensures (leads_is _ _ _ _ _ c.in-Within.is c.classify_run.ensures) c.skip_to-k-in-Run.ensures

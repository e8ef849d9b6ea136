-- The item matcher's loop: the segment that is tried, and what its outcome means for the whole.
use mathlib.Core.Path.{◌≡◌, refl, sym, ap, subst, ◌∙◌}
use mathlib.Core.Bool.{Bool, true, false, false≢true}
use mathlib.Core.List.{List}
use Prim.Native.Nat.{ℕ, zero, suc, ◌+◌, ◌-◌, ◌*◌, ◌<◌, ◌≤◌}
use native.Mathlib.Omega.{arith}
use lib.ListN.{length, drop, get_or}
use lib.Seq.{drop-drop}
use Rattle.bytestrings.specs.Text.{char}
use Rattle.bytestrings.proofs.SliceLaws.{from, from-drop, from-from, length_from, get_or-from}
use Rattle.engine.proofs.SegmentLaws.{after_at-drop}
use Rattle.engine.proofs.OutcomeLaws.{within_begin, within_skip}
use Rattle.engine.proofs.MatcherLaws.{Sliding, slide_fits, slide_whole, slide_short, slide_run, slide_failed, slide_end, slide_stop, slide_next, skipped-later, stop_fits, stop_star}
use Rattle.patterns.specs.Sharing.{inside}
use Rattle.patterns.specs.MatchTest.{tail_matches}
use Rattle.patterns.specs.inner.Tails.{after_at, within_then, slash_then}
use Rattle.engine.specs.inner.Outcomes.{Means, MeansRun, MeansItems, Stops, Passed, Skipped, Leads}
use Rattle.patterns.specs.declared.Mode.{Mode}
use Rattle.engine.specs.declared.matcher.Outcome.{Outcome}
use Rattle.engine.specs.declared.matcher.Outcome.TheVariants.{Matched, NoMatch, AbortToStarStar, AbortAll}
use Rattle.engine.specs.declared.segment.Stop.{Stop}
use Rattle.engine.specs.declared.segment.Stop.TheVariants.{Whole, Mismatch, TooShort, Run}
use Rattle.engine.specs.declared.runkind.RunKind.{RunKind}
use Rattle.engine.specs.declared.runkind.RunKind.TheVariants.{Within, All, ToSlash}

-- the segment from place a of the pattern is tried at place k of the text; where it slides, it started at an earlier place and went on
pub record Reached (m : Mode) (after : Bool) (p t : List ℕ) (a k : ℕ) (slides : Bool) : Type 0 where
  pub fits : a ≤ length p
  pub start : ℕ
  pub gone : ℕ
  pub started : start ≤ length t
  pub place : k ≡ start + gone
  pub flag : slides ≡ true → after_at after p a ≡ false
  pub sliding : Sliding m slides (from a p) (from start t) gone
  pub means : (r : Outcome) → MeansItems m (after_at after p a) slides (from a p) (from start t) r → Means m after (tail_matches m after p) t r

pub reach_begin : (m : Mode) (after : Bool) (p t : List ℕ) → Reached m after p t 0 0 false
unfolding Sliding MeansItems after_at
reach_begin m after p t = record {
  fits = omega arith;
  start = 0;
  gone = 0;
  started = omega arith;
  place = refl;
  flag = λ e. absurd (false≢true e);
  sliding = refl;
  means = λ r s. subst (λ (u : List ℕ). Means m after (tail_matches m after p) u r) (from-drop 0 t) (subst (λ (q : List ℕ). Means m after (tail_matches m after q) (from 0 t) r) (from-drop 0 p) s);
}

after_at_add : (after : Bool) (p : List ℕ) (a i : ℕ) → after_at (after_at after p a) (from a p) i ≡ after_at after p (a + i)
unfolding after_at
after_at_add after p a zero = let e : a ≡ a + 0 = omega arith in ap (after_at after p) e
after_at_add after p a (suc i) = ap (λ (q : List ℕ). after_at (after_at after p a) q (suc i)) (from-drop a p) ∙ after_at-drop after p a (suc i) (omega arith)

skipped_shift : (m : Mode) (q t : List ℕ) (s x n : ℕ) → s ≤ length t → Skipped m q t (s + x) n → Skipped m q (from s t) x (n - s)
unfolding Skipped Passed
skipped_shift m q t s x n l h = (
  omega (arith, h.0),
  rw length_from (omega (arith, h.1)),
  λ j a b. let g = h.2 (s + j) (omega arith) (omega arith) in
      (ap (inside m) (get_or-from s j t) ∙ g.0, ap (tail_matches m false q) (ap (drop j) (from-drop s t) ∙ drop-drop j s t) ∙ g.1),
)

module _ (m : Mode) (after : Bool) (p t : List ℕ) (a k : ℕ) (slides : Bool) (o : Reached m after p t a k slides) where
  pub reach_fits : (a ≤ length p) × (k ≤ length t)
  reach_fits = let h = rw length_from at (slide_fits m slides (from a p) (from o.start t) o.gone o.sliding) in (o.fits, omega (arith, o.place, o.started))

  here : from k t ≡ from o.gone (from o.start t)
  here = ap (λ (n : ℕ). from n t) o.place ∙ sym (from-from o.start o.gone t)

  moved : (s : Stop) → Stops m (from a p) (from k t) s → Stops m (from a p) (from o.gone (from o.start t)) s
  moved s h = subst (λ (u : List ℕ). Stops m (from a p) u s) here h

  pub reach-whole : Stops m (from a p) (from k t) Whole → Means m after (tail_matches m after p) t Matched
  reach-whole s = o.means Matched (slide_whole m (after_at after p a) slides (from a p) (from o.start t) o.gone o.flag o.sliding (moved Whole s))

  pub reach_short : Stops m (from a p) (from k t) TooShort → Means m after (tail_matches m after p) t AbortAll
  reach_short s = o.means AbortAll (slide_short m (after_at after p a) slides (from a p) (from o.start t) o.gone o.flag o.sliding (moved TooShort s))

  pub reach-failed : Stops m (from a p) (from k t) Mismatch → slides ≡ false → Means m after (tail_matches m after p) t NoMatch
  reach-failed s e = o.means NoMatch (slide_failed m (from a p) (from o.start t) o.gone (moved Mismatch s) (after_at after p a) slides e o.sliding)

  pub reach_end : Stops m (from a p) (from k t) Mismatch → slides ≡ true → length t ≤ k → Means m after (tail_matches m after p) t AbortAll
  reach_end s e l =
      o.means AbortAll (slide_end m (from a p) (from o.start t) o.gone (moved Mismatch s) (after_at after p a) slides e o.sliding (rw length_from (omega (arith, o.place))))

  at_place : get_or (from o.start t) o.gone 0 ≡ get_or t k 0
  at_place = get_or-from o.start o.gone t ∙ ap (λ (n : ℕ). get_or t n 0) (sym o.place)

  pub reach_stop : Stops m (from a p) (from k t) Mismatch → slides ≡ true → inside m (get_or t k 0) ≡ false → Means m after (tail_matches m after p) t AbortToStarStar
  reach_stop s e b =
      o.means AbortToStarStar (slide_stop m (from a p) (from o.start t) o.gone (moved Mismatch s) (after_at after p a) slides e o.sliding (ap (inside m) at_place ∙ b))

  pub reach_next : (n : ℕ) → Stops m (from a p) (from k t) Mismatch → slides ≡ true → k < length t → inside m (get_or t k 0) ≡ true → Skipped m (from a p) t (k + 1) n → Reached m after p t a n slides
  reach_next n s e l b h =
      let w = skipped-later m (from a p) t (k + 1) n h in
      let q : k + 1 ≡ o.start + (o.gone + 1) = omega (arith, o.place) in
      record {
        fits = o.fits;
        start = o.start;
        gone = n - o.start;
        started = o.started;
        place = omega (arith, o.place);
        flag = o.flag;
        means = o.means;
        sliding = slide_next m (from a p) (from o.start t) o.gone (moved Mismatch s) slides (n - o.start) e o.sliding (rw length_from (omega (arith, o.place))) (ap (inside m) at_place ∙ b)
            (skipped_shift m (from a p) t o.start (o.gone + 1) n o.started (subst (λ (x : ℕ). Skipped m (from a p) t x n) q h));
      }

  -- the segment stops at a run, place i of it, after j more bytes of the text
  module _ (i j : ℕ) (s : Stops m (from a p) (from k t) (Run i j)) where
    pub reach-run_fits : (a + i < length p) × (k + j ≤ length t)
    reach-run_fits = let h = stop_fits m (from a p) (from k t) i j s in let f = reach_fits in
        (omega (arith, rw length_from at h.0), omega (arith, rw length_from at h.1, f.1))

    pub reach_star : (0 < length (from (a + i) p)) × (get_or (from (a + i) p) 0 0 ≡ char "*")
    reach_star = subst (λ (l : List ℕ). (0 < length l) × (get_or l 0 0 ≡ char "*")) (from-from a i p) (stop_star m (from a p) (from k t) i j s)

    reach_tail : (b : Bool) (r : Outcome) → b ≡ after_at after p (a + i) → MeansRun m b (tail_matches m b (from (a + i) p)) (from (k + j) t) r → Means m after (tail_matches m after p) t r
    reach_tail b r e w =
        let q : o.start + (o.gone + j) ≡ k + j = omega (arith, o.place) in
        o.means r (slide_run m (after_at after p a) slides (from a p) (from o.start t) o.gone o.flag o.sliding i j b r (moved (Run i j) s) (e ∙ sym (after_at_add after p a i))
        (subst (λ (u : List ℕ). MeansRun m b (tail_matches m b (from i (from a p))) u r) (sym (from-from o.start (o.gone + j) t ∙ ap (λ (n : ℕ). from n t) q))
        (subst (λ (l : List ℕ). MeansRun m b (tail_matches m b l) (from (k + j) t) r) (sym (from-from a i p)) w)))

    pub reach_all : (b : Bool) → b ≡ after_at after p (a + i) → Leads m b (from (a + i) p) All → Means m after (tail_matches m after p) t Matched
    unfolding Leads
    reach_all b e w = reach_tail b Matched e (w (from (k + j) t))

    pub reach_slash : (b here : Bool) (n : ℕ) (r : Outcome) → b ≡ after_at after p (a + i) → Leads m b (from (a + i) p) (ToSlash n here)
        → MeansRun m true (slash_then m here (from (a + i + n) p)) (from (k + j) t) r
        → Means m after (tail_matches m after p) t r
    unfolding Leads
    reach_slash b here n r e w h =
        reach_tail b r e (w.2 (from (k + j) t) r (subst (λ (l : List ℕ). MeansRun m true (slash_then m here l) (from (k + j) t) r) (sym (from-from (a + i) n p) ∙ from-drop n (from (a + i) p)) h))

    pub reach-within : (b : Bool) (n x : ℕ) → b ≡ after_at after p (a + i) → Leads m b (from (a + i) p) (Within n) → Skipped m (from (a + i + n) p) t (k + j) x → Reached m after p t (a + i + n) x true
    unfolding Leads Sliding MeansItems
    reach-within b n x e w h =
        let f = skipped-later m (from (a + i + n) p) t (k + j) x h in
        let g = reach-run_fits in
        let q : k + j ≡ k + j + 0 = omega arith in
        record {
          fits = omega (arith, g.0, rw length_from at w.1);
          start = k + j;
          gone = x - (k + j);
          started = g.1;
          place = omega arith;
          flag = λ z. sym (after_at_add after p (a + i) n) ∙ ap (λ (d : Bool). after_at d (from (a + i) p) n) (sym e) ∙ w.2;
          sliding = within_skip m (from (a + i + n) p) (from (k + j) t) 0 (x - (k + j)) (within_begin m (from (a + i + n) p) (from (k + j) t))
              (skipped_shift m (from (a + i + n) p) t (k + j) 0 x g.1 (subst (λ (z : ℕ). Skipped m (from (a + i + n) p) t z x) q h));
          means =
              λ r v. reach_tail b r
              e (w.3 (from (k + j) t) r (subst (λ (l : List ℕ). MeansRun m false (within_then m l) (from (k + j) t) r) (sym (from-from (a + i) n p) ∙ from-drop n (from (a + i) p)) v));
        }

pub leads_fits : (m : Mode) (b : Bool) (p : List ℕ) (n : ℕ) → Leads m b p (Within n) → (1 ≤ n) × (n ≤ length p)
unfolding Leads
leads_fits m b p n w = (w.0, w.1)

pub leads_slash_fits : (m : Mode) (b : Bool) (p : List ℕ) (n : ℕ) (here : Bool) → Leads m b p (ToSlash n here) → (1 ≤ n) × (n ≤ length p)
unfolding Leads
leads_slash_fits m b p n here w = (w.0, w.1)

pub leads_is : (m : Mode) (b : Bool) (p : List ℕ) (v w : RunKind) → v ≡ w → Leads m b p v → Leads m b p w
leads_is m b p v w e h = subst (Leads m b p) e h

-- what is left of pattern and text falls as a pair
pub left_falls : (p t : List ℕ) (x y : ℕ) → 1 ≤ x → x ≤ length p → 2 * (length (from x p) + length (from y t)) + 1 < 2 * (length p + length t)
left_falls p t x y a b = rw (length_from x p, length_from y t) (omega arith)

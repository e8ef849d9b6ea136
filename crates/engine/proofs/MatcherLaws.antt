-- The outcomes of the run at the start of a pattern, by the tests that the code makes.
use mathlib.Core.Path.{◌≡◌, refl, sym, ap, subst, ◌∙◌}
use mathlib.Core.Logic.{◌⊎◌, inl, inr}
use mathlib.Core.Bool.{Bool, true, false, false≢true}
use mathlib.Core.List.{List, [], ◌∷◌}
use Prim.Native.Nat.{ℕ, zero, suc, ◌+◌, ◌-◌, ◌<◌, ◌≤◌}
use native.Mathlib.Omega.{arith}
use lib.Dec.{eqb}
use lib.ListN.{length, drop, get_or, length-drop}
use Rattle.bytestrings.specs.Text.{char}
use Rattle.bytestrings.proofs.SliceLaws.{from, from-drop, from-from}
use Rattle.patterns.proofs.RunLaws.{stars_le, stars_some}
use Rattle.patterns.proofs.TailLaws.{tail_within, tail_all, tail_slash, tail_escaped, crosses-ends, escaped_rest}
use Rattle.engine.proofs.OutcomeLaws.{means_same, means-after, matched-run, all_run, WithinRun, within_next, within_skip, within_end, within_stop, within_decides}
use Rattle.engine.proofs.SkipLaws.{passed_fits}
use Rattle.engine.proofs.SegmentLaws.{first}
use Rattle.patterns.specs.Patterns.{stars, starts_slash, crosses}
use Rattle.patterns.specs.Sharing.{inside}
use Rattle.patterns.specs.MatchTest.{tail_matches}
use Rattle.patterns.specs.inner.Tails.{after_at, within_then, slash_then}
use Rattle.engine.specs.inner.Outcomes.{Means, MeansRun, MeansItems, Stops, NextSlash, Skipped}
use Rattle.patterns.specs.declared.Mode.{Mode}
use Rattle.engine.specs.declared.matcher.Outcome.{Outcome}
use Rattle.engine.specs.declared.matcher.Outcome.TheVariants.{Matched, NoMatch, AbortToStarStar, AbortAll}
use Rattle.engine.specs.declared.segment.Stop.{Stop}
use Rattle.engine.specs.declared.segment.Stop.TheVariants.{Whole, Mismatch, TooShort, Run}

empty_drop : (p : List ℕ) → length p ≡ 0 → p ≡ []
empty_drop [] h = refl
empty_drop (x ∷ p) h = absurd (omega arith)

pub run_fits : (p : List ℕ) (n : ℕ) → get_or p 0 0 ≡ char "*" → n ≡ stars p → (1 ≤ n) × (n ≤ length p)
run_fits p n e c = (omega (arith, stars_some p e), omega (arith, stars_le p))

module _ (m : Mode) (after : Bool) (p t : List ℕ) (n : ℕ) (l : 0 < length p) (e : get_or p 0 0 ≡ char "*") (c : n ≡ stars p) where
  rest_is : from n p ≡ drop (stars p) p
  rest_is = from-drop n p ∙ ap (λ (k : ℕ). drop k p) c

  crosses_is : (b : Bool) → crosses after n (from n p) ≡ b → crosses after (stars p) (drop (stars p) p) ≡ b
  crosses_is b h = subst (λ (k : ℕ). crosses after k (drop (stars p) p) ≡ b) c (subst (λ (q : List ℕ). crosses after n q ≡ b) rest_is h)

  within-means : (m.path ≡ false) ⊎ (crosses after (stars p) (drop (stars p) p) ≡ false) → (r : Outcome) → MeansRun m false (within_then m (from n p)) t r
      → MeansRun m after (tail_matches m after p) t r
  within-means h r s = means-after m after (tail_matches m after p) t r
      (means_same m false (tail_matches m after p) (within_then m (from n p)) t r (λ u. tail_within m after p u l e h ∙ ap (λ (q : List ℕ). within_then m q u) (sym rest_is)) s)

  pub run-plain : (r : Outcome) → m.path ≡ false → MeansRun m false (within_then m (from n p)) t r → MeansRun m after (tail_matches m after p) t r
  run-plain r h s = within-means (inl h) r s

  pub run-within : (r : Outcome) → crosses after n (from n p) ≡ false → MeansRun m false (within_then m (from n p)) t r → MeansRun m after (tail_matches m after p) t r
  run-within r h s = within-means (inr (crosses_is false h)) r s

  pub run-whole : crosses after n (from n p) ≡ true → length (from n p) ≡ 0 → MeansRun m after (tail_matches m after p) t Matched
  unfolding MeansRun Means
  run-whole h z = (tail_all m after p t l e (crosses_is true h) (empty_drop (drop (stars p) p) (rw rest_is at z)), matched-run)

  pub run_slash : (r : Outcome) → m.path ≡ true → crosses after n (from n p) ≡ true → starts_slash (from n p) ≡ true → MeansRun m true (slash_then m true (from 1 (from n p))) t r
      → MeansRun m after (tail_matches m after p) t r
  run_slash r h k s w =
      means_same m after (tail_matches m after p) (slash_then m true (from 1 (from n p))) t r
      (λ u. tail_slash m after p u h l e (crosses_is true k) (rw rest_is at s) ∙ ap (λ (q : List ℕ). slash_then m true q u) (sym (from-drop 1 (from n p) ∙ ap (drop 1) rest_is)))
      (subst (λ (b : Bool). MeansRun m b (slash_then m true (from 1 (from n p))) t r) (sym (crosses-ends after n (from n p) k).0) w)

  pub run_escaped : (r : Outcome) → crosses after n (from n p) ≡ true → (length (from n p) ≡ 0 → ⊥) → starts_slash (from n p) ≡ false → MeansRun m true (slash_then m false (from 2 (from n p))) t r
      → MeansRun m after (tail_matches m after p) t r
  run_escaped r k z s w =
      means_same m after (tail_matches m after p) (slash_then m false (from 2 (from n p))) t r
      (λ u. tail_escaped m after p u l e (crosses_is true k) (rw rest_is at s) (λ d. z (rw rest_is d))
      ∙ ap (λ (q : List ℕ). slash_then m false q u) (sym (from-drop 2 (from n p) ∙ ap (drop 2) rest_is)))
      (subst (λ (b : Bool). MeansRun m b (slash_then m false (from 2 (from n p))) t r) (sym (crosses-ends after n (from n p) k).0) w)

-- what is left of a pattern that ends in `\/`
pub escaped_long : (after : Bool) (n : ℕ) (q : List ℕ) → crosses after n q ≡ true → (length q ≡ 0 → ⊥) → starts_slash q ≡ false → 2 ≤ length q
escaped_long after n q h z s = let r = escaped_rest q (crosses-ends after n q h).1 s z in rw r.1 (omega arith)

pub slash_long : (q : List ℕ) → starts_slash q ≡ true → 1 ≤ length q
unfolding starts_slash
slash_long [] s = absurd (false≢true s)
slash_long (x ∷ q) s = omega arith

-- the flag at place 0, and at a later place
pub follows_start : (p : List ℕ) (i : ℕ) → i ≡ 0 → eqb i 0 ≡ after_at true p i
unfolding after_at
follows_start p i e = rw e refl

pub follows_later : (p : List ℕ) (i : ℕ) → (i ≡ 0 → ⊥) → eqb (get_or p (i - 1) 0) (char "/") ≡ after_at true p i
unfolding after_at
follows_later p zero h = absurd (h refl)
follows_later p (suc i) h = let e : suc i - 1 ≡ i = omega arith in ap (λ (k : ℕ). eqb (get_or p k 0) (char "/")) e

-- the next `/`
pub slash_next : (t : List ℕ) (k n : ℕ) → k ≤ n → n ≤ length t → ((j : ℕ) → j < n → k ≤ j → get_or t j 0 ≡ char "/" → ⊥) → (n < length t → get_or t n 0 ≡ char "/")
    → NextSlash t k (n + 1)
unfolding NextSlash
slash_next t k n a l h e = let q : n + 1 - 1 ≡ n = omega arith in
    (omega arith, omega arith, λ b. ap (λ (i : ℕ). get_or t i 0) q ∙ e (omega arith), λ i b d f w. h (i - 1) (omega arith) (omega arith) w)

-- The same claim at the outcome that the code has.

pub means_is : (m : Mode) (after : Bool) (p t : List ℕ) (r s : Outcome) → r ≡ s → Means m after (tail_matches m after p) t r → Means m after (tail_matches m after p) t s
means_is m after p t r s e h = subst (Means m after (tail_matches m after p) t) e h

pub stops_is : (m : Mode) (p t : List ℕ) (r s : Stop) → r ≡ s → Stops m p t r → Stops m p t s
stops_is m p t r s e h = subst (Stops m p t) e h

-- Where a segment stops at a run.

module _ (m : Mode) (p t : List ℕ) (i j : ℕ) (s : Stops m p t (Run i j)) where
  pub stop_fits : (i < length p) × (j ≤ length t)
  unfolding Stops
  stop_fits = (s.0, s.1)

  pub stop_star : (0 < length (from i p)) × (get_or (from i p) 0 0 ≡ char "*")
  unfolding Stops
  stop_star = rw from-drop (rw length-drop (omega (arith, s.0)), first i p ∙ s.2)

  pub stop_means : (after b : Bool) (r : Outcome) → b ≡ after_at after p i → MeansRun m b (tail_matches m b (from i p)) (from j t) r → Means m after (tail_matches m after p) t r
  unfolding Stops MeansRun
  stop_means after b r e h =
      s.3 after r (subst (λ (f : Bool). Means m f (tail_matches m f (drop i p)) (drop j t) r)
      e (subst (λ (q : List ℕ). Means m b (tail_matches m b q) (drop j t) r) (from-drop i p) (subst (λ (u : List ℕ). Means m b (tail_matches m b (from i p)) u r) (from-drop j t) h.0)))

run_decides : (m : Mode) (b : Bool) (f : List ℕ → Bool) (t : List ℕ) (r : Outcome) → MeansRun m b f t r → r ≡ NoMatch → ⊥
unfolding MeansRun
run_decides m b f t r h = h.1

-- The item matcher's loop: where it slides it has passed over k bytes, else it is at the start.
unfoldable pub Sliding : Mode → Bool → List ℕ → List ℕ → ℕ → Type 0
Sliding m false p t k = k ≡ 0
Sliding m true p t k = WithinRun m p t k

pub slide_fits : (m : Mode) (slides : Bool) (p t : List ℕ) (k : ℕ) → Sliding m slides p t k → k ≤ length t
unfolding Sliding
slide_fits m false p t k h = omega arith
slide_fits m true p t k h = h.0

-- what decides at the place that is tried decides
slide_decides : (m : Mode) (after slides : Bool) (p t : List ℕ) (k : ℕ) (r : Outcome) → (slides ≡ true → after ≡ false) → Sliding m slides p t k
    → Means m after (tail_matches m after p) (from k t) r → (r ≡ NoMatch → ⊥) → MeansItems m after slides p t r
unfolding MeansItems Sliding
slide_decides m after false p t k r a h s n = subst (λ (u : List ℕ). Means m after (tail_matches m after p) u r) (from-drop k t ∙ ap (λ (i : ℕ). drop i t) h) s
slide_decides m after true p t k r a h s n = within_decides m p t k r h (subst (λ (b : Bool). Means m b (tail_matches m b p) (from k t) r) (a refl) s) n

module _ (m : Mode) (after slides : Bool) (p t : List ℕ) (k : ℕ) (a : slides ≡ true → after ≡ false) (h : Sliding m slides p t k) where
  pub slide_whole : Stops m p (from k t) Whole → MeansItems m after slides p t Matched
  unfolding Stops
  slide_whole s = slide_decides m after slides p t k Matched a h (s after) matched-run

  pub slide_short : Stops m p (from k t) TooShort → MeansItems m after slides p t AbortAll
  unfolding Stops
  slide_short s = slide_decides m after slides p t k AbortAll a h (s after) all_run

  pub slide_run : (i j : ℕ) (b : Bool) (r : Outcome) → Stops m p (from k t) (Run i j) → b ≡ after_at after p i → MeansRun m b (tail_matches m b (from i p)) (from (k + j) t) r
      → MeansItems m after slides p t r
  slide_run i j b r s e w =
      slide_decides m after slides p t k r a h (stop_means m p (from k t) i j s after b r e (subst (λ (u : List ℕ). MeansRun m b (tail_matches m b (from i p)) u r) (sym (from-from k j t)) w))
      (run_decides m b (tail_matches m b (from i p)) (from (k + j) t) r w)

-- where the segment does not fit
module _ (m : Mode) (p t : List ℕ) (k : ℕ) (s : Stops m p (from k t) Mismatch) where
  missed : (after : Bool) → Means m after (tail_matches m after p) (from k t) NoMatch
  unfolding Stops
  missed after = s after

  pub slide_failed : (after slides : Bool) → slides ≡ false → Sliding m slides p t k → MeansItems m after slides p t NoMatch
  unfolding MeansItems Sliding
  slide_failed after false e h = subst (λ (u : List ℕ). Means m after (tail_matches m after p) u NoMatch) (from-drop k t ∙ ap (λ (i : ℕ). drop i t) h) (missed after)
  slide_failed after true e h = absurd (false≢true (sym e))

  pub slide_end : (after slides : Bool) → slides ≡ true → Sliding m slides p t k → length t ≤ k → MeansItems m after slides p t AbortAll
  unfolding MeansItems Sliding
  slide_end after false e h l = absurd (false≢true e)
  slide_end after true e h l = within_end m p t k h l (missed false)

  pub slide_stop : (after slides : Bool) → slides ≡ true → Sliding m slides p t k → inside m (get_or t k 0) ≡ false → MeansItems m after slides p t AbortToStarStar
  unfolding MeansItems Sliding
  slide_stop after false e h b = absurd (false≢true e)
  slide_stop after true e h b = within_stop m p t k h b (missed false)

  pub slide_next : (slides : Bool) (n : ℕ) → slides ≡ true → Sliding m slides p t k → k < length t → inside m (get_or t k 0) ≡ true → Skipped m p t (k + 1) n → Sliding m slides p t n
  unfolding Sliding
  slide_next false n e h l b w = absurd (false≢true e)
  slide_next true n e h l b w = within_skip m p t (k + 1) n (within_next m p t k h l b (missed false)) w

pub skipped-later : (m : Mode) (p t : List ℕ) (k n : ℕ) → Skipped m p t k n → (k ≤ n) × (n ≤ length t)
unfolding Skipped
skipped-later m p t k n h = passed_fits m _ t k n h

pub next_later : (t : List ℕ) (k n : ℕ) → NextSlash t k n → (k < n) × (n ≤ length t + 1)
unfolding NextSlash
next_later t k n h = (h.0, h.1)

-- The outcomes of a run that crosses to after a `/`, by the places that it can reach.
use mathlib.Core.Path.{◌≡◌, refl, sym, ap, subst, ◌∙◌}
use mathlib.Core.Logic.{◌⊎◌, inl, inr, ⊎_elim}
use mathlib.Core.Bool.{Bool, true, false, ◌&&◌, or-true, false≢true}
use mathlib.Core.List.{List, [], ◌∷◌}
use Prim.Native.Nat.{ℕ, zero, suc, ◌+◌, ◌-◌, ◌<◌, ◌≤◌}
use native.Mathlib.Omega.{arith}
use lib.Dec.{eqb}
use lib.ListN.{length, drop, get_or, length-drop}
use lib.Seq.{drop-cons, drop-drop, get_or-drop}
use borrow.Author.Tests.{eqb-true}
use Rattle.std.proofs.lemmas.Bool.{or_cases, cases_lt, false_from_ne_true, and_parts}
use Rattle.bytestrings.specs.Text.{char}
use Rattle.bytestrings.proofs.SliceLaws.{from, from-drop, drop_on, get_or_on}
use Rattle.bytestrings.proofs.BoolLaws.{not_both}
use Rattle.engine.proofs.OutcomeLaws.{means-failed, means-within, run_at, at_run, all_run, matched-run}
use Rattle.patterns.specs.MatchTest.{one_then, run_then, tail_matches}
use Rattle.engine.specs.inner.Outcomes.{run-to_slash, May, Never, Means, MeansRun, NextSlash, FirstPlace}
use Rattle.patterns.specs.inner.Tails.{slash_then}
use Rattle.patterns.specs.declared.Mode.{Mode}
use Rattle.engine.specs.declared.matcher.Outcome.TheVariants.{Matched, NoMatch, AbortToStarStar, AbortAll}

-- the run may end at place k of t: after a `/`, or at the start where `here`
abbrev pub Spot : Bool → List ℕ → ℕ → Type 0
Spot here t k = ((k ≡ 0) × (here ≡ true)) ⊎ ((1 ≤ k) × (get_or t (k - 1) 0 ≡ char "/"))

one_at : (a : ℕ → Bool) (f : List ℕ → Bool) (u : List ℕ) → one_then a f u ≡ true → (1 ≤ length u) × (a (get_or u 0 0) ≡ true) × (f (drop 1 u) ≡ true)
one_at a f [] e = absurd (false≢true e)
one_at a f (x ∷ u) e = let s = and_parts (a x) (f u) e in (omega arith, s.0, s.1)

module _ (m : Mode) (here : Bool) (p t : List ℕ) where
  slash_at : slash_then m here p t ≡ true → (k : ℕ) × (k ≤ length t) × Spot here t k × (tail_matches m true p (drop k t) ≡ true)
  unfolding slash_then
  slash_at e =
      ⊎_elim (λ h. let s = and_parts here (tail_matches m true p t) h in (0, omega arith, inl (refl, s.0), s.1))
      (λ h. let r = run_at (λ x. true) (one_then (λ x. eqb x (char "/")) (tail_matches m true p)) t h in
      let s = one_at (λ x. eqb x (char "/")) (tail_matches m true p) (drop r.0 t) r.3 in
      let a : r.0 + 0 ≡ r.0 + 1 - 1 = omega arith in (
        r.0 + 1,
        omega (arith, rw length-drop at s.0),
        inr (omega arith, ap (λ (n : ℕ). get_or t n 0) (sym a) ∙ sym (get_or-drop r.0 t 0 0) ∙ eqb-true (get_or (drop r.0 t) 0 0) (char "/") s.1),
        rw drop-drop at s.2,
      ))
      (or_cases (here && tail_matches m true p t) (run_then (λ x. true) (one_then (λ x. eqb x (char "/")) (tail_matches m true p)) t) e)

  at_slash : (k : ℕ) → k ≤ length t → Spot here t k → tail_matches m true p (drop k t) ≡ true → slash_then m here p t ≡ true
  unfolding slash_then
  at_slash k l (inl s) e = rw (s.1, subst (λ (n : ℕ). tail_matches m true p (drop n t) ≡ true) s.0 e) refl
  at_slash k l (inr s) e = rw (at_run (λ x. true) (one_then (λ x. eqb x (char "/")) (tail_matches m true p)) t (k - 1) (omega arith) (λ j d. refl) taken_slash)
      (or-true (here && tail_matches m true p t))
    where
      taken_slash : one_then (λ x. eqb x (char "/")) (tail_matches m true p) (drop (k - 1) t) ≡ true
      taken_slash = let a : suc (k - 1) ≡ k = omega (arith, s.0) in rw (drop-cons t (k - 1) 0 (omega (arith, s.0)), s.1, a) e

reach_spot : (here : Bool) (m : Mode) (t : List ℕ) (k b : ℕ) → May m run-to_slash t k → Spot here (drop k t) b → Spot here t (k + b)
reach_spot here m t k b w (inr s) = let a : k + (b - 1) ≡ k + b - 1 = omega (arith, s.0) in inr (omega (arith, s.0), ap (λ (n : ℕ). get_or t n 0) (sym a) ∙ sym (get_or-drop k t (b - 1) 0) ∙ s.1)
reach_spot here m t zero b w (inl s) = inl (omega (arith, s.0), s.1)
reach_spot here m t (suc k) b (inl w) (inl s) = absurd (omega arith)
reach_spot here m t (suc k) b (inr w) (inl s) = let a : suc k + b - 1 ≡ suc k - 1 = omega (arith, s.0) in inr (omega arith, ap (λ (n : ℕ). get_or t n 0) a ∙ w)

module _ (m : Mode) (here : Bool) (p t : List ℕ) where
  cross_all : ((j : ℕ) → j ≤ length t → Spot here t j → tail_matches m true p (drop j t) ≡ false) → MeansRun m true (slash_then m here p) t AbortAll
  unfolding MeansRun Means Never
  cross_all h = (
    λ k l w. false_from_ne_true _ (λ e. let r = slash_at m here p (drop k t) e in
        not_both (rw drop-drop at r.3) (h (k + r.0) (omega (arith, rw length-drop at r.1)) (reach_spot here m t k r.0 w r.2))),
    all_run,
  )

  -- the loop over the places: p matches at none of them before k, and k is one of them, if it is in the text
  abbrev pub Cross : ℕ → Type 0
  Cross k = (k ≤ length t + 1) × ((j : ℕ) → j < k → j ≤ length t → Spot here t j → tail_matches m true p (drop j t) ≡ false) × (k ≤ length t → Spot here t k)

  none_between : (k n j : ℕ) → NextSlash t k n → k < j → j < n → j ≤ length t → Spot here t j → ⊥
  unfolding NextSlash
  none_between k n j h a b l (inl s) = omega (arith, s.0)
  none_between k n j h a b l (inr s) = h.3 j a b l s.1

  pub cross_begin : (k : ℕ) → FirstPlace here t k → Cross k
  unfolding FirstPlace NextSlash
  cross_begin k h = go here refl h
    where
      go : (b : Bool) → here ≡ b → FirstPlace b t k → Cross k
      go true e f = (omega (arith, f), λ j l. absurd (omega (arith, f)), λ l. inl (f, e))
      go false e f = (f.1, none, λ l. inr (f.0, f.2 l))
        where
          none : (j : ℕ) → j < k → j ≤ length t → Spot here t j → tail_matches m true p (drop j t) ≡ false
          none j l d (inl s) = absurd (not_both s.1 e)
          none j l d (inr s) = absurd (f.3 j s.0 l d s.1)

  pub cross_next : (k n : ℕ) → Cross k → tail_matches m true p (drop k t) ≡ false → NextSlash t k n → Cross n
  unfolding NextSlash
  cross_next k n i f h = (h.1, λ j l d s. ⊎_elim (λ b. i.1 j b d s) (λ b. later j b l d s) (cases_lt j k), λ l. inr (omega (arith, h.0), h.2 l))
    where
      later : (j : ℕ) → k ≤ j → j < n → j ≤ length t → Spot here t j → tail_matches m true p (drop j t) ≡ false
      later j b l d s = ⊎_elim (λ a. absurd (none_between k n j h a l d s)) (λ a. let e : k ≡ j = omega arith in subst (λ (x : ℕ). tail_matches m true p (drop x t) ≡ false) e f) (cases_lt k j)

  pub cross_matched : (k : ℕ) → Cross k → k ≤ length t → Means m true (tail_matches m true p) (from k t) Matched → MeansRun m true (slash_then m here p) t Matched
  unfolding MeansRun Means
  cross_matched k i l s = (at_slash m here p t k l (i.2 l) (rw from-drop at s), matched-run)

  pub cross_decides : (k : ℕ) → Cross k → k ≤ length t → Means m true (tail_matches m true p) (from k t) AbortAll → MeansRun m true (slash_then m here p) t AbortAll
  unfolding Means Never
  cross_decides k i l s = cross_all (λ j d h. ⊎_elim (λ b. i.1 j b d h)
      (λ b. subst (λ (u : List ℕ). tail_matches m true p u ≡ false) (drop_on k j t b) ((rw from-drop at s) (j - k) (rw length-drop (omega arith)) (on j b h))) (cases_lt j k))
    where
      on : (j : ℕ) → k ≤ j → Spot here t j → May m run-to_slash (drop k t) (j - k)
      on j b (inl h) = inl (omega (arith, h.0))
      on j b (inr h) =
          ⊎_elim (λ a. let e : j - 1 - k ≡ j - k - 1 = omega arith in inr (ap (λ (n : ℕ). get_or (drop k t) n 0) (sym e) ∙ get_or_on k (j - 1) t (omega arith) ∙ h.1)) (λ a. inl (omega arith))
          (cases_lt k j)

  pub cross_end : (k : ℕ) → Cross k → length t < k → MeansRun m true (slash_then m here p) t AbortAll
  cross_end k i l = cross_all (λ j d s. i.1 j (omega arith) d s)

-- p does not match at place k
pub cross_failed : (m : Mode) (p t : List ℕ) (k : ℕ) → Means m true (tail_matches m true p) (from k t) NoMatch → tail_matches m true p (drop k t) ≡ false
cross_failed m p t k s = rw from-drop at (means-failed m true (tail_matches m true p) (from k t) s)

pub cross_within : (m : Mode) (p t : List ℕ) (k : ℕ) → Means m true (tail_matches m true p) (from k t) AbortToStarStar → tail_matches m true p (drop k t) ≡ false
cross_within m p t k s = rw from-drop at (means-within m true (tail_matches m true p) (from k t) s)

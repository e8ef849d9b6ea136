-- What follows from an outcome, and the outcomes of runs by the places that they can reach.
use mathlib.Core.Path.{◌≡◌, refl, sym, subst, fun_ext}
use mathlib.Core.Logic.{inl, ⊎_elim}
use mathlib.Core.Bool.{Bool, true, false, ◌&&◌, or-true}
use mathlib.Core.List.{List, [], ◌∷◌}
use Prim.Native.Nat.{ℕ, zero, suc, ◌+◌, ◌-◌, ◌<◌, ◌≤◌}
use native.Mathlib.Omega.{arith}
use lib.ListN.{length, drop, get_or, length-drop}
use lib.Seq.{drop-drop, get_or-drop}
use borrow.Author.Count.{below_more}
use Rattle.std.proofs.lemmas.Bool.{or_cases, cases_lt, false_from_ne_true, and_parts}
use Rattle.bytestrings.proofs.SliceLaws.{from, from-drop, drop_on, get_or_on}
use Rattle.bytestrings.proofs.BoolLaws.{not_both}
use Rattle.patterns.specs.Sharing.{inside}
use Rattle.patterns.proofs.Meaning.{run_here, decides}
use Rattle.patterns.specs.MatchTest.{run_then, tail_matches, matches_test, MatchDecided}
use Rattle.engine.specs.inner.Outcomes.{RunBefore, no_run, run-within, run-to_slash, any_run, May, Never, Means, MeansRun, Passed, Skipped}
use Rattle.patterns.specs.inner.Tails.{within_then}
use Rattle.patterns.specs.declared.Mode.{Mode}
use Rattle.engine.specs.declared.matcher.Outcome.{Outcome}
use Rattle.engine.specs.declared.matcher.Outcome.TheVariants.{Matched, NoMatch, AbortToStarStar, AbortAll}

may_start : (m : Mode) (s : RunBefore) (t : List ℕ) → May m s t 0
may_start m no_run t = refl
may_start m run-within t = λ j l. absurd (omega arith)
may_start m run-to_slash t = inl refl
may_start m any_run t = tt

never_here : (m : Mode) (s : RunBefore) (f : List ℕ → Bool) (t : List ℕ) → Never m s f t → f t ≡ false
unfolding Never
never_here m s f t h = h 0 (omega arith) (may_start m s t)

pub means-failed : (m : Mode) (after : Bool) (f : List ℕ → Bool) (t : List ℕ) → Means m after f t NoMatch → f t ≡ false
unfolding Means
means-failed m after f t h = never_here m _ f t h

pub means-within : (m : Mode) (after : Bool) (f : List ℕ → Bool) (t : List ℕ) → Means m after f t AbortToStarStar → f t ≡ false
unfolding Means
means-within m after f t h = never_here m _ f t h

-- the answer of the whole pattern
pub answer_matched : (m : Mode) (p t : List ℕ) (r : Outcome) → Means m true (tail_matches m true p) t r → r ≡ Matched → MatchDecided m p t true
unfolding Means matches_test
answer_matched m p t Matched h e = decides m p t true (sym h)
answer_matched m p t NoMatch h e = absurd cc
answer_matched m p t AbortToStarStar h e = absurd cc
answer_matched m p t AbortAll h e = absurd cc

pub answer_other : (m : Mode) (p t : List ℕ) (r : Outcome) → Means m true (tail_matches m true p) t r → (r ≡ Matched → ⊥) → MatchDecided m p t false
unfolding Means matches_test
answer_other m p t Matched h n = absurd (n refl)
answer_other m p t NoMatch h n = decides m p t false (sym (never_here m no_run (tail_matches m true p) t h))
answer_other m p t AbortToStarStar h n = decides m p t false (sym (never_here m run-within (tail_matches m true p) t h))
answer_other m p t AbortAll h n = decides m p t false (sym (never_here m run-to_slash (tail_matches m true p) t h))

-- an outcome means the same for a test that gives the same answers, and what it means after any byte it means after `/`
pub means_same : (m : Mode) (after : Bool) (f g : List ℕ → Bool) (t : List ℕ) (r : Outcome) → ((u : List ℕ) → f u ≡ g u) → MeansRun m after g t r → MeansRun m after f t r
means_same m after f g t r h s = subst (λ (e : List ℕ → Bool). MeansRun m after e t r) (sym (fun_ext h)) s

pub means-after : (m : Mode) (after : Bool) (f : List ℕ → Bool) (t : List ℕ) (r : Outcome) → MeansRun m false f t r → MeansRun m after f t r
unfolding MeansRun Means Never
means-after m false f t r s = s
means-after m true f t Matched s = s
means-after m true f t NoMatch s = s
means-after m true f t AbortToStarStar s = s
means-after m true f t AbortAll s = (λ k l w. s.0 k l tt, s.1)

-- The places that a run can reach.

pub run_at : (a : ℕ → Bool) (f : List ℕ → Bool) (t : List ℕ) → run_then a f t ≡ true → (k : ℕ) × (k ≤ length t) × ((j : ℕ) → j < k → a (get_or t j 0) ≡ true) × (f (drop k t) ≡ true)
run_at a f [] e = (0, omega arith, λ j l. absurd (omega arith), e)
run_at a f (x ∷ t) e =
    ⊎_elim (λ h. (0, omega arith, λ j l. absurd (omega arith), h))
    (λ h. let s = and_parts (a x) (run_then a f t) h in let r = run_at a f t s.1 in (suc r.0, omega (arith, r.1), on s.0 r.0 r.2, r.3))
    (or_cases (f (x ∷ t)) (a x && run_then a f t) e)
  where
    on : a x ≡ true → (k : ℕ) → ((j : ℕ) → j < k → a (get_or t j 0) ≡ true) → (j : ℕ) → j < suc k → a (get_or (x ∷ t) j 0) ≡ true
    on h k g zero l = h
    on h k g (suc j) l = g j (omega arith)

pub at_run : (a : ℕ → Bool) (f : List ℕ → Bool) (t : List ℕ) (k : ℕ) → k ≤ length t → ((j : ℕ) → j < k → a (get_or t j 0) ≡ true) → f (drop k t) ≡ true → run_then a f t ≡ true
at_run a f t zero l g e = run_here a f t e
at_run a f [] (suc k) l g e = absurd (omega arith)
at_run a f (x ∷ t) (suc k) l g e = rw (g 0 (omega arith), at_run a f t k (omega arith) (λ j h. g (suc j) (omega arith)) e) (or-true (f (x ∷ t)))

pub all_run : AbortAll ≡ NoMatch → ⊥
all_run e = let z : ◌≡◌ {A = ℕ} 0 1 = cc in omega arith

within-run : AbortToStarStar ≡ NoMatch → ⊥
within-run e = let z : ◌≡◌ {A = ℕ} 0 1 = cc in omega arith

pub matched-run : Matched ≡ NoMatch → ⊥
matched-run e = let z : ◌≡◌ {A = ℕ} 0 1 = cc in omega arith

-- A run within a component, and then the pattern p.

module _ (m : Mode) (p t : List ℕ) where
  within_at : (k : ℕ) → k ≤ length t → ((j : ℕ) → j < k → inside m (get_or t j 0) ≡ true) → tail_matches m false p (drop k t) ≡ true → MeansRun m false (within_then m p) t Matched
  unfolding MeansRun Means within_then
  within_at k l g e = (at_run (inside m) (tail_matches m false p) t k l g e, matched-run)

  within_all : ((j : ℕ) → j ≤ length t → tail_matches m false p (drop j t) ≡ false) → MeansRun m false (within_then m p) t AbortAll
  unfolding MeansRun Means Never within_then
  within_all h = (
    λ k l w. false_from_ne_true _ (λ e. let r = run_at (inside m) (tail_matches m false p) (drop k t) e in
        not_both (rw drop-drop at r.3) (h (k + r.0) (omega (arith, rw length-drop at r.1)))),
    all_run,
  )

  within-within : ((j : ℕ) → j ≤ length t → May m run-within t j → tail_matches m false p (drop j t) ≡ false) → MeansRun m false (within_then m p) t AbortToStarStar
  unfolding MeansRun Means Never within_then
  within-within h = (
    λ k l w. false_from_ne_true _ (λ e. let r = run_at (inside m) (tail_matches m false p) (drop k t) e in
        not_both (rw drop-drop at r.3) (h (k + r.0) (omega (arith, rw length-drop at r.1)) (both k r.0 w r.2))),
    within-run,
  )
    where
      both : (k b : ℕ) → May m run-within t k → May m run-within (drop k t) b → May m run-within t (k + b)
      both k b w v j l =
          ⊎_elim (λ i. w j i) (λ i. subst (λ (x : ℕ). inside m x ≡ true) (get_or_on k j t i) (v (j - k) (omega arith))) (cases_lt j k)

  -- the loop over the places: k bytes are inside, and at none of their places does p match
  abbrev pub WithinRun : ℕ → Type 0
  WithinRun k = (k ≤ length t) × ((j : ℕ) → j < k → inside m (get_or t j 0) ≡ true) × ((j : ℕ) → j < k → tail_matches m false p (drop j t) ≡ false)

  pub within_begin : WithinRun 0
  within_begin = (omega arith, λ j l. absurd (omega arith), λ j l. absurd (omega arith))

  pub within_skip : (k n : ℕ) → WithinRun k → Skipped m p t k n → WithinRun n
  unfolding Skipped Passed
  within_skip k n i h = (h.1, λ j l. ⊎_elim (i.1 j) (λ b. (h.2 j l b).0) (cases_lt j k), λ j l. ⊎_elim (i.2 j) (λ b. (h.2 j l b).1) (cases_lt j k))

  failed_here : (k : ℕ) → Means m false (tail_matches m false p) (from k t) NoMatch → tail_matches m false p (drop k t) ≡ false
  failed_here k s = rw from-drop at (means-failed m false (tail_matches m false p) (from k t) s)

  pub within_next : (k : ℕ) → WithinRun k → k < length t → inside m (get_or t k 0) ≡ true → Means m false (tail_matches m false p) (from k t) NoMatch → WithinRun (k + 1)
  within_next k i l a s = (omega arith, below_more _ k i.1 a, below_more _ k i.2 (failed_here k s))

  pub within_end : (k : ℕ) → WithinRun k → length t ≤ k → Means m false (tail_matches m false p) (from k t) NoMatch → MeansRun m false (within_then m p) t AbortAll
  within_end k i l s = within_all (λ j h. below_more _ k i.2 (failed_here k s) j (omega (arith, i.0)))

  pub within_stop : (k : ℕ) → WithinRun k → inside m (get_or t k 0) ≡ false → Means m false (tail_matches m false p) (from k t) NoMatch → MeansRun m false (within_then m p) t AbortToStarStar
  within_stop k i a s = within-within (λ j h w. below_more _ k i.2 (failed_here k s) j (⊎_elim (λ l. absurd (not_both (w k l) a)) (λ l. omega arith) (cases_lt k j)))

  -- where p decides at place k, it decides
  pub within_decides : (k : ℕ) (r : Outcome) → WithinRun k → Means m false (tail_matches m false p) (from k t) r → (r ≡ NoMatch → ⊥) → MeansRun m false (within_then m p) t r
  unfolding Means Never
  within_decides k Matched i s n = within_at k i.0 i.1 (rw from-drop at s)
  within_decides k NoMatch i s n = absurd (n refl)
  within_decides k AbortToStarStar i s n = within-within (λ j h w. ⊎_elim (i.2 j)
      (λ l. subst (λ (u : List ℕ). tail_matches m false p u ≡ false) (drop_on k j t l)
      ((rw from-drop at s) (j - k) (rw length-drop (omega arith)) (λ b d. subst (λ (x : ℕ). inside m x ≡ true) (sym (get_or-drop k t b 0)) (w (k + b) (omega arith))))) (cases_lt j k))
  within_decides k AbortAll i s n = within_all (λ j h. ⊎_elim (i.2 j)
      (λ l. subst (λ (u : List ℕ). tail_matches m false p u ≡ false) (drop_on k j t l) ((rw from-drop at s) (j - k) (rw length-drop (omega arith)) tt)) (cases_lt j k))

-- The parents of an entry, from the parents of its own parent; and the rule from the top down over them.
use Prim.Native.Nat.{ℕ, zero, suc, ◌-◌, ◌<◌, ◌≤◌}
use native.Mathlib.Omega.{arith}
use mathlib.Core.Path.{◌≡◌, refl, sym, ap, subst, ◌∙◌}
use mathlib.Core.Bool.{Bool, true, false, cond, ◌||◌, false≢true}
use mathlib.Core.List.{List, [], ◌∷◌, ◌++◌, append-nil}
use Rattle.std.specs.Prelude.{Option, None, Some}
use lib.Dec.{eqb}
use lib.ListN.{length, take, drop, get_or}
use lib.Seq.{append_snoc, length-take-le}
use borrow.Author.Tests.{eq-eqb}
use Rattle.bytestrings.specs.Text.{char}
use Rattle.rulefiles.specs.declared.Decision.{Decision}
use Rattle.rulefiles.specs.Decisions.{override}
use Rattle.rulefiles.proofs.DecisionLaws.{override_assoc}
use Rattle.entries.specs.Entries.{Entry, component_start}
use Rattle.bytestrings.specs.Bytes.{has}
use Rattle.entries.proofs.ComponentLaws.{After, start-place}
use Rattle.entries.proofs.SubjectLaws.{start_fits}
use Rattle.ignorelines.specs.declared.Verdict.{Verdict}
use Rattle.ignorelines.specs.declared.Verdict.TheVariants.{Ignored, Reincluded}
use Rattle.answers.specs.Complete.{Complete, decided}
use Rattle.verdicts.specs.Verdicts.{parents_from, parents, ignores, judged, top_down}
use Rattle.verdicts.specs.inner.Scan.{ignored_at, first_ignored}
use Rattle.answers.specs.declared.DecidedEntry.{DecidedEntry}
use Rattle.verdicts.proofs.VerdictLaws.{entry_of}

-- no `/`, no parents
parents_none : (before s : List ℕ) → has (char "/") s ≡ false → parents_from before s ≡ []
parents_none before [] h = refl
parents_none before (x ∷ s) h = go (eqb x (char "/")) h (parents_none (before ++ x ∷ []) s)
  where
    go : (b : Bool) → (b || has (char "/") s) ≡ false → (has (char "/") s ≡ false → parents_from (before ++ x ∷ []) s ≡ [])
        → cond b (entry_of before true ∷ parents_from (before ++ x ∷ []) s) (parents_from (before ++ x ∷ []) s) ≡ []
    go true e q = absurd (false≢true (sym e))
    go false e q = q e

-- the last parent stands before the last `/`
parents_last : (before s : List ℕ) (k : ℕ) → k < length s → get_or s k 0 ≡ char "/" → has (char "/") (drop (suc k) s) ≡ false
    → parents_from before s ≡ parents_from before (take k s) ++ entry_of (before ++ take k s) true ∷ []
parents_last before [] k l e h = absurd (omega arith)
parents_last before (x ∷ s) zero l e h = rw (eq-eqb x (char "/") e, parents_none (before ++ x ∷ []) s h, append-nil before)
parents_last before (x ∷ s) (suc k) l e h =
    step before x s k (eqb x (char "/")) (parents_last (before ++ x ∷ []) s k (omega arith) e h
    ∙ ap (λ (b : List ℕ). parents_from (before ++ x ∷ []) (take k s) ++ entry_of b true ∷ []) (append_snoc before x (take k s)))
  where
    step : (before : List ℕ) (x : ℕ) (s : List ℕ) (k : ℕ) (b : Bool) → parents_from (before ++ x ∷ []) s ≡ parents_from (before ++ x ∷ []) (take k s) ++ entry_of (before ++ x ∷ take k s) true ∷ []
        → cond b (entry_of before true ∷ parents_from (before ++ x ∷ []) s) (parents_from (before ++ x ∷ []) s)
        ≡ cond b (entry_of before true ∷ parents_from (before ++ x ∷ []) (take k s)) (parents_from (before ++ x ∷ []) (take k s)) ++ entry_of (before ++ x ∷ take k s) true ∷ []
    step before x s k true q = ap (λ (es : List Entry). entry_of before true ∷ es) q
    step before x s k false q = q

-- an entry of one component has no parents
pub parents_top : (s : List ℕ) (at : ℕ) → at ≡ component_start s → (1 ≤ at → ⊥) → parents s ≡ []
unfolding parents
parents_top s at e z =
    let none : at ≡ 0 = omega (arith, z) in
    parents_none [] s (subst (λ (n : ℕ). has (char "/") (drop n s) ≡ false) (sym e ∙ none) (start-place s).0)

-- the parent of another stands before the `/` that its last component follows
pub parent_fits : (s : List ℕ) (at n : ℕ) → at ≡ component_start s → (1 ≤ at) × (n ≡ at - 1) → n < length s
parent_fits s at n e h = let f = start_fits s in omega (arith, e, f, h.0, h.1)

-- it has its parent, and that one's parents
parents_step : (s : List ℕ) (at n : ℕ) → at ≡ component_start s → (1 ≤ at) × (n ≡ at - 1) → parents s ≡ parents (take n s) ++ entry_of (take n s) true ∷ []
unfolding parents
parents_step s at n e h =
    let after : at ≡ suc n = omega (arith, h.0, h.1) in
    let p = subst (λ (k : ℕ). (has (char "/") (drop k s) ≡ false) × After s k) (sym e ∙ after) (start-place s) in
    parents_last [] s n p.1.0 p.1.1 p.0

module _ (v : Entry → Option (Decision Verdict)) where
  -- the last parent counts where none before it is ignored
  first_last : (ps : List Entry) (p : Entry) → first_ignored v (ps ++ p ∷ []) ≡ override (ignored_at (length p.bytes) (v p)) (first_ignored v ps)
  first_last [] p = go (ignored_at (length p.bytes) (v p))
    where
      go : (o : Option DecidedEntry) → override None o ≡ o
      go None = refl
      go (Some d) = refl
  first_last (q ∷ ps) p =
      ap (λ (o : Option DecidedEntry). override o (ignored_at (length q.bytes) (v q))) (first_last ps p)
      ∙ override_assoc (ignored_at (length p.bytes) (v p)) (first_ignored v ps) (ignored_at (length q.bytes) (v q))

  pub ignored_top : (s : List ℕ) (at : ℕ) → at ≡ component_start s → (1 ≤ at → ⊥) → None ≡ first_ignored v (parents s)
  ignored_top s at e z = rw (parents_top s at e z)

  -- the parent's parents first, then the parent
  pub ignored_step : (s : List ℕ) (at n : ℕ) (a : Option DecidedEntry) → at ≡ component_start s → (1 ≤ at) × (n ≡ at - 1) → a ≡ first_ignored v (parents (take n s))
      → override (ignored_at n (v (entry_of (take n s) true))) a ≡ first_ignored v (parents s)
  ignored_step s at n a e h q =
      let f = parent_fits s at n e h in
      let l : n ≤ length s = omega arith in
      sym (
      ap (first_ignored v) (parents_step s at n e h) ∙ first_last (parents (take n s)) (entry_of (take n s) true)
      ∙ rw (length-take-le n s l, sym q))

  -- where the parents have no answer, the entry's own verdict is it
  abbrev pub answer_or : Option DecidedEntry → Complete → Complete
  answer_or None a = a
  answer_or (Some e) a = decided e.decision.what e.length e.decision.place

  pub top_down_lem : (ps : List Entry) (e : Entry) → answer_or (first_ignored v ps) (judged (length e.bytes) (v e)) ≡ top_down v ps e
  top_down_lem [] e = refl
  top_down_lem (p ∷ ps) e = go (v p) (top_down_lem ps e)
    where
      by : (w : Verdict) (d : Decision Verdict) → d.what ≡ w → answer_or (first_ignored v ps) (judged (length e.bytes) (v e)) ≡ top_down v ps e
          → answer_or (override (first_ignored v ps) (ignored_at (length p.bytes) (Some d))) (judged (length e.bytes) (v e))
          ≡ cond (ignores (Some d)) (judged (length p.bytes) (Some d)) (top_down v ps e)
      by Ignored d q h = rw q
      by Reincluded d q h = rw q h

      go : (o : Option (Decision Verdict)) → answer_or (first_ignored v ps) (judged (length e.bytes) (v e)) ≡ top_down v ps e
          → answer_or (override (first_ignored v ps) (ignored_at (length p.bytes) o)) (judged (length e.bytes) (v e)) ≡ cond (ignores o) (judged (length p.bytes) o) (top_down v ps e)
      go None h = h
      go (Some d) h = by d.what d refl h

  pub top_down_by : (ps : List Entry) (e : Entry) (o : Option DecidedEntry) → o ≡ first_ignored v ps → answer_or o (judged (length e.bytes) (v e)) ≡ top_down v ps e
  top_down_by ps e o q = ap (λ (p : Option DecidedEntry). answer_or p (judged (length e.bytes) (v e))) q ∙ top_down_lem ps e

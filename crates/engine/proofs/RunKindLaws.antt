-- What the run at the start of a pattern leaves to be matched, by the tests that the code makes.
use mathlib.Core.Path.{◌≡◌, refl, sym, ap, subst, ◌∙◌}
use mathlib.Core.Bool.{Bool, true, false}
use mathlib.Core.List.{List, [], ◌∷◌}
use Prim.Native.Nat.{ℕ, ◌+◌, ◌<◌, ◌≤◌}
use native.Mathlib.Omega.{arith}
use lib.ListN.{length, drop, get_or}
use borrow.Author.Tests.{eq-eqb, ne_eqb}
use Rattle.bytestrings.specs.Text.{char}
use Rattle.bytestrings.proofs.SliceLaws.{from, from-drop, from-from, length_from}
use Rattle.patterns.proofs.ReadLaws.{stars_last}
use Rattle.engine.proofs.MatcherLaws.{run_fits, run-plain, run-within, run-whole, run_slash, run_escaped, escaped_long, slash_long}
use Rattle.patterns.specs.Patterns.{stars, starts_slash, crosses}
use Rattle.patterns.specs.inner.Tails.{after_at, within_then, slash_then}
use Rattle.engine.specs.inner.Outcomes.{MeansRun, Leads}
use Rattle.patterns.specs.declared.Mode.{Mode}
use Rattle.engine.specs.declared.runkind.RunKind.TheVariants.{Within, All, ToSlash}

stars-after : (after : Bool) (p : List ℕ) → 0 < length p → get_or p 0 0 ≡ char "*" → after_at after p (stars p) ≡ false
stars-after after [] l e = absurd (omega arith)
stars-after after (x ∷ p) l e = (stars_last x p after (eq-eqb x (char "*") e)).2

-- whether a `/` is next, by the first byte
pub starts_at : (q : List ℕ) → 1 ≤ length q → get_or q 0 0 ≡ char "/" → starts_slash q ≡ true
unfolding starts_slash
starts_at [] l e = absurd (omega arith)
starts_at (x ∷ q) l e = eq-eqb x (char "/") e

pub starts_not : (q : List ℕ) → (get_or q 0 0 ≡ char "/" → ⊥) → starts_slash q ≡ false
unfolding starts_slash
starts_not [] n = refl
starts_not (x ∷ q) n = ne_eqb x (char "/") n

module _ (m : Mode) (after : Bool) (p : List ℕ) (n : ℕ) (l : 0 < length p) (e : get_or p 0 0 ≡ char "*") (c : n ≡ stars p) where
  flag : after_at after p n ≡ false
  flag = ap (after_at after p) c ∙ stars-after after p l e

  pub leads_plain : m.path ≡ false → Leads m after p (Within n)
  unfolding Leads
  leads_plain h = let f = run_fits p n e c in
      (f.0, f.1, flag, λ t r s. run-plain m after p t n l e c r h (subst (λ (q : List ℕ). MeansRun m false (within_then m q) t r) (sym (from-drop n p)) s))

  pub leads_within : crosses after n (from n p) ≡ false → Leads m after p (Within n)
  unfolding Leads
  leads_within h = let f = run_fits p n e c in
      (f.0, f.1, flag, λ t r s. run-within m after p t n l e c r h (subst (λ (q : List ℕ). MeansRun m false (within_then m q) t r) (sym (from-drop n p)) s))

  pub leads_all : crosses after n (from n p) ≡ true → length (from n p) ≡ 0 → Leads m after p All
  unfolding Leads
  leads_all h z t = run-whole m after p t n l e c h z

  rest_of : (k : ℕ) → from k (from n p) ≡ drop (n + k) p
  rest_of k = from-from n k p ∙ from-drop (n + k) p

  pub leads_slash : m.path ≡ true → crosses after n (from n p) ≡ true → starts_slash (from n p) ≡ true → Leads m after p (ToSlash (n + 1) true)
  unfolding Leads
  leads_slash h k s = let f = run_fits p n e c in (
    omega arith,
    omega (arith, rw length_from at (slash_long (from n p) s)),
    λ t r w. run_slash m after p t n l e c r h k s (subst (λ (q : List ℕ). MeansRun m true (slash_then m true q) t r) (sym (rest_of 1)) w),
  )

  pub leads_escaped : crosses after n (from n p) ≡ true → (length (from n p) ≡ 0 → ⊥) → starts_slash (from n p) ≡ false → Leads m after p (ToSlash (n + 2) false)
  unfolding Leads
  leads_escaped k z s = let f = run_fits p n e c in (
    omega arith,
    omega (arith, rw length_from at (escaped_long after n (from n p) k z s)),
    λ t r w. run_escaped m after p t n l e c r k z s (subst (λ (q : List ℕ). MeansRun m true (slash_then m false q) t r) (sym (rest_of 2)) w),
  )

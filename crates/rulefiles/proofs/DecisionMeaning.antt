-- `last_decision` is the effect of the line that decides, at its place; there is none exactly where no line has an effect.
use mathlib.Core.Path.{◌≡◌, refl, sym, ap, ◌∙◌}
use mathlib.Core.List.{List, [], ◌∷◌, ◌++◌}
use Rattle.std.specs.Prelude.{Option, None, Some}
use Prim.Native.Nat.{ℕ}
use native.Mathlib.Omega.{arith}
use Rattle.rulefiles.specs.RuleFiles.{Line}
use Rattle.rulefiles.specs.Decisions.{Decision, place_of, decision_by, override, last_decision, HasEffect, NoEffects, Decides}

module _ {A : Type 0} (effect : Line → Option A) where
  parts : (l : Line) (w : Option A) (rest : Option (Decision A)) → override (decision_by l w) rest ≡ None → (w ≡ None) × (rest ≡ None)
  parts l None None e = (refl, refl)
  parts l (Some a) None e = let z : ◌≡◌ {A = ℕ} 0 1 = cc in absurd (omega arith)
  parts l w (Some d) e = let z : ◌≡◌ {A = ℕ} 0 1 = cc in absurd (omega arith)

  pub last_none : (lines : List Line) → last_decision effect lines ≡ None → NoEffects effect lines
  last_none [] e = tt
  last_none (l ∷ ls) e = let p = parts l (effect l) (last_decision effect ls) e in (p.0, last_none ls p.1)

  pub none_last : (lines : List Line) → NoEffects effect lines → last_decision effect lines ≡ None
  none_last [] s = refl
  none_last (l ∷ ls) s = rw (s.0, none_last ls s.1)

  behind : (earlier lines : List Line) (d : Decision A) → last_decision effect lines ≡ Some d → last_decision effect (earlier ++ lines) ≡ Some d
  behind [] lines d e = e
  behind (l ∷ ls) lines d e = rw (behind ls lines d e)

  pub last_decides : (lines : List Line) (l : Line) (a : A) → Decides effect lines l → effect l ≡ Some a
      → last_decision effect lines ≡ Some (record { what = a; place = place_of l })
  last_decides lines l a d e =
      rw d.stands (behind d.earlier (l ∷ d.later) (record { what = a; place = place_of l }) (rw (e, none_last d.later d.none_later)))

  -- what is decided, by the line that decides
  abbrev By : List Line → Decision A → Type 0
  By lines d = (l : Line) × Decides effect lines l × (effect l ≡ Some d.what) × (d.place ≡ place_of l)

  first : (l : Line) (ls : List Line) (d : Decision A) (w : Option A) (rest : Option (Decision A))
      → effect l ≡ w → last_decision effect ls ≡ rest → override (decision_by l w) rest ≡ Some d → (last_decision effect ls ≡ Some d → By ls d) → By (l ∷ ls) d
  unfolding HasEffect
  first l ls d None None e f g next = let z : ◌≡◌ {A = ℕ} 0 1 = cc in absurd (omega arith)
  first l ls d (Some a) None e f g next =
      let q : record { what = a; place = place_of l } ≡ d = cc in (
        l,
        record { earlier = []; later = ls; stands = refl; has_effect = (a, e); none_later = last_none ls f },
        e ∙ ap (λ (x : Decision A). Some x.what) q,
        sym (ap (λ (x : Decision A). x.place) q),
      )
  first l ls d w (Some r) e f g next =
      let b = next (f ∙ g) in
      let h = b.1 in (
        b.0,
        record { earlier = l ∷ h.earlier; later = h.later; stands = ap (λ (xs : List Line). l ∷ xs) h.stands; has_effect = h.has_effect; none_later = h.none_later },
        b.2,
        b.3,
      )

  pub decides_last : (lines : List Line) (d : Decision A) → last_decision effect lines ≡ Some d → (l : Line) × Decides effect lines l × (effect l ≡ Some d.what) × (d.place ≡ place_of l)
  decides_last [] d e = let z : ◌≡◌ {A = ℕ} 0 1 = cc in absurd (omega arith)
  decides_last (l ∷ ls) d e = first l ls d (effect l) (last_decision effect ls) refl refl e (decides_last ls d)

-- The answer of a list of lines that is cut in two.
use mathlib.Core.Path.{◌≡◌, refl, sym, ap, ◌∙◌}
use mathlib.Core.List.{List, [], ◌∷◌, ◌++◌, Memᴰ}
use Rattle.std.specs.Prelude.{Option, None, Some}
use Rattle.rulefiles.specs.RuleFiles.{Line}
use Rattle.rulefiles.specs.declared.Decision.{Decision}
use Rattle.rulefiles.specs.Decisions.{override, last_decision, HasEffect, NoEffects}
use Rattle.rulefiles.proofs.DecisionMeaning.{last_none, none_last}
use Rattle.rulefiles.proofs.DecisionLaws.{override_assoc, override_none, last_append}
use Rattle.layers.specs.Parts.{SaysAnything, Composes}
use Rattle.layers.proofs.NoEffectLaws.{none_some, none_member}

module _ {A : Type 0} (effect : Line → Option A) where
  -- a part that says nothing has no answer, and one that says something has one
  none_says : (ls : List Line) → (SaysAnything effect ls → ⊥) → last_decision effect ls ≡ None
  unfolding SaysAnything HasEffect
  none_says ls h = none_last effect ls (all ls (λ l m a e. h (l, m, (a, e))))
    where
      effect_none : (l : Line) (o : Option A) → effect l ≡ o → ((a : A) → effect l ≡ Some a → ⊥) → effect l ≡ None
      effect_none l None e h = e
      effect_none l (Some a) e h = absurd (h a e)

      all : (ls : List Line) → ((l : Line) → Memᴰ l ls → (a : A) → effect l ≡ Some a → ⊥) → NoEffects effect ls
      all [] h = tt
      all (l ∷ ls) h = (effect_none l (effect l) refl (h l (Memᴰ.head refl)), all ls (λ x m. h x (Memᴰ.tail m)))

  some_says : (ls : List Line) → SaysAnything effect ls → last_decision effect ls ≡ None → ⊥
  unfolding SaysAnything HasEffect
  some_says ls s e = none_some (sym (none_member effect ls s.0 (last_none effect ls e) s.1) ∙ s.2.1)

  later_wins : (a b : Option (Decision A)) → (b ≡ None → ⊥) → override a b ≡ b
  later_wins a None h = absurd (h refl)
  later_wins a (Some d) h = refl

  pub composes : (lines earlier later : List Line) → lines ≡ earlier ++ later → Composes effect lines earlier later
  composes lines earlier later e =
      let w : last_decision effect lines ≡ override (last_decision effect earlier) (last_decision effect later) = ap (last_decision effect) e ∙ last_append effect earlier later in
      record {
        if_later_says = λ s. w ∙ later_wins (last_decision effect earlier) (last_decision effect later) (some_says later s);
        else_earlier = λ h. w ∙ ap (override (last_decision effect earlier)) (none_says later h);
        whole = w;
        associative = override_assoc;
        empty_earlier = override_none;
        empty_later = λ a. refl;
      }

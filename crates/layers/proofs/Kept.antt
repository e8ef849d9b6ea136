-- Blanking lines that decide nothing keeps the last decision.
use mathlib.Core.Path.{◌≡◌, refl, sym, ap, ◌∙◌}
use mathlib.Core.Bool.{true}
use mathlib.Core.List.{List, [], ◌∷◌, ◌++◌}
use Rattle.std.specs.Prelude.{Option, None, Some}
use Prim.Native.Nat.{ℕ}
use Rattle.rulefiles.specs.RuleFiles.{Line}
use Rattle.rulefiles.specs.declared.Decision.{Decision}
use Rattle.rulefiles.specs.Decisions.{decision_by, override, last_decision, HasEffect, Decides}
use Rattle.rulefiles.proofs.DecisionMeaning.{last_none}
use Rattle.rulefiles.proofs.DecisionLaws.{override_none}
use Rattle.layers.specs.Blanking.{Choice}
use Rattle.layers.proofs.SpaceLines.{spaces}

-- a chosen line after blanking: its file, number and base as before, its bytes spaces. (Its start moves where a BOM was overwritten with it.)
pub record Blank (chosen : Choice) (before after : Line) : Type 0 where
  pub was_chosen : chosen.line before.file before.number ≡ true
  pub same_file : after.file ≡ before.file
  pub same_number : after.number ≡ before.number
  pub same_base : after.base ≡ before.base
  -- the bytes that were overwritten
  pub raw : List ℕ
  pub all_spaces : after.bytes ≡ spaces raw

-- the lines before and after blanking, one by one: the same line, or a blank one in its place
pub data Alike (chosen : Choice) : List Line → List Line → Type 0 where
  alike_nil : Alike chosen [] []
  alike_same : {l m : Line} {ls ms : List Line} → m ≡ l → Alike chosen ls ms → Alike chosen (l ∷ ls) (m ∷ ms)
  alike_blank : {l m : Line} {ls ms : List Line} → Blank chosen l m → Alike chosen ls ms → Alike chosen (l ∷ ls) (m ∷ ms)

pub alike_refl : (chosen : Choice) (ls : List Line) → Alike chosen ls ls
alike_refl chosen [] = alike_nil
alike_refl chosen (l ∷ ls) = alike_same refl (alike_refl chosen ls)

pub alike_append : {chosen : Choice} {ls ms xs ys : List Line} → Alike chosen ls ms → Alike chosen xs ys → Alike chosen (ls ++ xs) (ms ++ ys)
alike_append alike_nil b = b
alike_append (alike_same e a) b = alike_same e (alike_append a b)
alike_append (alike_blank k a) b = alike_blank k (alike_append a b)

module _ {A : Type 0} (effect : Line → Option A) where
  -- what decides among later lines decides among all
  decides_more : (x : Line) (ls : List Line) (l : Line) → Decides effect ls l → Decides effect (x ∷ ls) l
  decides_more x ls l d =
      record {
        earlier = x ∷ d.earlier;
        later = d.later;
        stands = ap {B = List Line} (λ (r : List Line). x ∷ r) d.stands;
        has_effect = d.has_effect;
        none_later = d.none_later;
      }

  -- a chosen line that does not decide is overridden by a later line, or has no effect
  overridden : (l : Line) (ls : List Line) → (Decides effect (l ∷ ls) l → ⊥) → override (decision_by l (effect l)) (last_decision effect ls) ≡ last_decision effect ls
  unfolding HasEffect
  overridden l ls h = go (effect l) (last_decision effect ls) refl refl
    where
      go : (w : Option A) (r : Option (Decision A)) → effect l ≡ w → last_decision effect ls ≡ r → override (decision_by l w) r ≡ r
      go w (Some d) e f = refl
      go None None e f = refl
      go (Some a) None e f = absurd (h (record { earlier = []; later = ls; stands = refl; has_effect = (a, e); none_later = last_none effect ls f }))

  pub kept-answer : {chosen : Choice} {ls ms : List Line} → ((m : Line) (s : List ℕ) → m.bytes ≡ spaces s → effect m ≡ None) → Alike chosen ls ms
      → ((l : Line) → Decides effect ls l → chosen.line l.file l.number ≡ true → ⊥) → last_decision effect ms ≡ last_decision effect ls
  kept-answer no-effect alike_nil none-decides = refl
  kept-answer no-effect (alike_same {l = l} {m = m} {ls = ls} {ms = ms} e a) none-decides =
      ap (λ (x : Line). override (decision_by x (effect x)) (last_decision effect ms)) e
      ∙ ap (override (decision_by l (effect l))) (kept-answer no-effect a (λ k d. none-decides k (decides_more l ls k d)))
  kept-answer no-effect (alike_blank {l = l} {m = m} {ls = ls} {ms = ms} b a) none-decides =
      ap (λ (w : Option A). override (decision_by m w) (last_decision effect ms)) (no-effect m b.raw b.all_spaces)
      ∙ override_none (last_decision effect ms)
      ∙ kept-answer no-effect a (λ k d. none-decides k (decides_more l ls k d))
      ∙ sym (overridden l ls (λ d. none-decides l d b.was_chosen))

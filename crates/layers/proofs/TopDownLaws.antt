-- The rule from the top down asks only for the verdicts of the visited entries.
use mathlib.Core.Path.{◌≡◌, refl}
use mathlib.Core.Bool.{Bool, true, false, cond}
use mathlib.Core.List.{List, [], ◌∷◌, Memᴰ}
use Rattle.std.specs.Prelude.{Option}
use Rattle.rulefiles.specs.declared.Decision.{Decision}
use Rattle.entries.specs.Entries.{Entry}
use Rattle.ignorelines.specs.declared.Verdict.{Verdict}
use Rattle.answers.specs.Complete.{Complete}
use Rattle.verdicts.specs.Verdicts.{ignores, top_down, visited}

module _ (v w : Entry → Option (Decision Verdict)) where
  -- below a parent
  below : (ps : List Entry) (path : Entry) (stop : Bool) (a : Complete)
      → ((e : Entry) → Memᴰ e (cond stop [] (visited v ps path)) → w e ≡ v e)
      → (((e : Entry) → Memᴰ e (visited v ps path) → w e ≡ v e) → top_down w ps path ≡ top_down v ps path)
      → cond stop a (top_down w ps path) ≡ cond stop a (top_down v ps path)
  below ps path true a h k = refl
  below ps path false a h k = k h

  pub same_visited : (ps : List Entry) (path : Entry) → ((e : Entry) → Memᴰ e (visited v ps path) → w e ≡ v e) → top_down w ps path ≡ top_down v ps path
  same_visited [] path h = rw (h path (Memᴰ.head refl))
  same_visited (p ∷ ps) path h = rw (h p (Memᴰ.head refl)) (below ps path (ignores (v p)) _ (λ e m. h e (Memᴰ.tail m)) (same_visited ps path))

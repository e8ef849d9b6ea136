-- The last component, by place.
use Prim.Native.Nat.{ℕ, zero, suc, ◌+◌, ◌-◌, ◌<◌, ◌≤◌}
use native.Mathlib.Omega.{arith}
use mathlib.Core.Path.{◌≡◌, refl, sym, ap, subst, ◌∙◌}
use mathlib.Core.Bool.{Bool, true, false, ◌||◌, false≢true}
use mathlib.Core.List.{List, [], ◌∷◌}
use lib.Dec.{eqb}
use lib.ListN.{length, drop, get_or, length-drop}
use borrow.Author.Tests.{eqb-true, ne_eqb}
use native.Mathlib.Numerals.{add-one}
use Rattle.std.specs.Prelude.{◌≢◌}
use Rattle.bytestrings.specs.Text.{char}
use Rattle.bytestrings.specs.Bytes.{has}
use Rattle.entries.specs.Entries.{last_component, component_start}
use Rattle.bytestrings.proofs.ByteLaws.{has_at}

-- a component can start at this place: it is the first, or a `/` stands before it
abbrev pub After : List ℕ → ℕ → Type 0
After s zero = Unit {0}
After s (suc i) = (i < length s) × (get_or s i 0 ≡ char "/")

after_tail : (x : ℕ) (s : List ℕ) (i : ℕ) → After (x ∷ s) (suc i) → After s i
after_tail x s zero a = tt
after_tail x s (suc i) a = (omega (arith, a.0), a.1)

-- the last component starts where one can and no `/` follows
pub component_at : (s : List ℕ) (i : ℕ) → has (char "/") (drop i s) ≡ false → After s i → last_component s ≡ drop i s
component_at [] zero h a = refl
component_at [] (suc i) h a = refl
component_at (x ∷ s) zero h a = rw h
component_at (x ∷ s) (suc i) h a = rw (has_at (char "/") (x ∷ s) i a.0 a.1) (component_at s i h (after_tail x s i a))

within : (s : List ℕ) (i : ℕ) → After s i → i ≤ length s
within s zero a = omega arith
within s (suc i) a = omega (arith, a.0)

pub start_at : (s : List ℕ) (i : ℕ) → has (char "/") (drop i s) ≡ false → After s i → component_start s ≡ i
unfolding component_start
start_at s i h a =
    let e : length (last_component s) ≡ length s - i = ap length (component_at s i h a) ∙ length-drop i s in
    let l : i ≤ length s = within s i a in
    omega arith

left_true : (a b : Bool) → (a || b) ≡ true → b ≡ false → a ≡ true
left_true true b e h = refl
left_true false b e h = absurd (false≢true (sym h ∙ e))

-- the longest row after which no `/` follows
no_slash : (s : List ℕ) → (i : ℕ) × (has (char "/") (drop i s) ≡ false) × After s i
no_slash [] = (0, refl, tt)
no_slash (x ∷ s) = go (has (char "/") (x ∷ s)) refl (no_slash s)
  where
    go : (b : Bool) → has (char "/") (x ∷ s) ≡ b → (i : ℕ) × (has (char "/") (drop i s) ≡ false) × After s i → (i : ℕ) × (has (char "/") (drop i (x ∷ s)) ≡ false) × After (x ∷ s) i
    go false e w = (0, e, tt)
    go true e (zero, h, a) = (1, h, (omega arith, eqb-true x (char "/") (left_true (eqb x (char "/")) (has (char "/") s) e h)))
    go true e (suc i, h, a) = (suc (suc i), h, (omega (arith, a.0), a.1))

pub component-whole : (s : List ℕ) → last_component s ≡ drop (component_start s) s
component-whole s = let w = no_slash s in component_at s w.0 w.1 w.2 ∙ ap (λ (n : ℕ). drop n s) (sym (start_at s w.0 w.1 w.2))

-- The same where the last `/` stands at a place, or nowhere.
none_from : (b : ℕ) (s : List ℕ) (i : ℕ) → ((k : ℕ) → i ≤ k → k < length s → get_or s k 0 ≢ b) → has b (drop i s) ≡ false
none_from b [] zero none = refl
none_from b [] (suc i) none = refl
none_from b (x ∷ s) zero none = rw (ne_eqb x b (none 0 (omega arith) (omega arith))) (none_from b s 0 (λ k l h. none (suc k) (omega arith) (omega arith)))
none_from b (x ∷ s) (suc i) none = none_from b s i (λ k l h. none (suc k) (omega arith) (omega arith))

pub start_none : (s : List ℕ) → ((k : ℕ) → 0 ≤ k → k < length s → get_or s k 0 ≢ char "/") → component_start s ≡ 0
start_none s none = start_at s 0 (none_from (char "/") s 0 none) tt

pub start_after_last : (s : List ℕ) (i : ℕ) → i < length s → get_or s i 0 ≡ char "/" → ((k : ℕ) → i + 1 ≤ k → k < length s → get_or s k 0 ≢ char "/") → component_start s ≡ i + 1
start_after_last s i h e none = rw (add-one i) (start_at s (suc i) (none_from (char "/") s (suc i) (λ k l f. none k (omega arith) f)) (h, e))

-- the last component's start, as a place
pub start-place : (s : List ℕ) → (has (char "/") (drop (component_start s) s) ≡ false) × After s (component_start s)
start-place s = let w = no_slash s in subst (λ (n : ℕ). (has (char "/") (drop n s) ≡ false) × After s n) (sym (start_at s w.0 w.1 w.2)) (w.1, w.2)

-- Laws of star runs, by the tests that the code makes.
use mathlib.Core.Path.{◌≡◌, refl, sym, ap, ◌∙◌}
use mathlib.Core.Bool.{Bool, true, false, cond, not, and-false, false≢true}
use mathlib.Core.List.{List, [], ◌∷◌}
use Prim.Native.Nat.{ℕ, suc, ◌+◌, ◌<◌, ◌≤◌}
use native.Mathlib.Nat.{le_refl}
use native.Mathlib.Omega.{arith}
use lib.Dec.{eqb}
use lib.ListN.{length, get_or}
use borrow.Author.Tests.{eq-eqb, le-leb, lt-leb}
use Rattle.std.specs.Prelude.{Option}
use Rattle.std.specs.Option.{unwrap_or}
use Rattle.std.specs.List.{position}
use Rattle.std.proofs.lemmas.List.Recursion.{is_position_or_len}
use Rattle.bytestrings.specs.Text.{char}
use Rattle.patterns.specs.Patterns.{stars, component_ends, crosses}

pub stars_le : (p : List ℕ) → stars p ≤ length p
unfolding stars
stars_le [] = le_refl 0
stars_le (x ∷ p) = go (stars_le p) (eqb x (char "*"))
  where
    go : stars p ≤ length p → (b : Bool) → cond b (suc (stars p)) 0 ≤ suc (length p)
    go h true = omega arith
    go h false = omega arith

stars_cons : (x : ℕ) (p : List ℕ) → stars (x ∷ p) ≡ cond (not (eqb x (char "*"))) 0 (1 + stars p)
unfolding stars
stars_cons x p = go (eqb x (char "*"))
  where
    go : (b : Bool) → cond b (suc (stars p)) 0 ≡ cond (not b) 0 (1 + stars p)
    go true = omega arith
    go false = refl

-- where the first other byte stands, or the end
pub stars_found : (p : List ℕ) (o : Option ℕ) (n : ℕ) → o ≡ position (λ x. not (eqb x (char "*"))) p → n ≡ unwrap_or o (length p) → n ≡ stars p
unfolding stars
stars_found p o n e h =
    let q = is_position_or_len stars (λ x. not (eqb x (char "*"))) refl stars_cons p in
    let k : n ≡ unwrap_or (position (λ x. not (eqb x (char "*"))) p) (length p) = h ∙ ap (λ (r : Option ℕ). unwrap_or r (length p)) e in
    grind (arith, q, k, stars_le p)

pub stars_some : (p : List ℕ) → get_or p 0 0 ≡ char "*" → 1 ≤ stars p
unfolding stars
stars_some [] e = absurd (omega arith)
stars_some (x ∷ p) e = rw (eq-eqb x (char "*") e) (omega arith)

pub crosses-single : (after : Bool) (n : ℕ) (p : List ℕ) → n < 2 → false ≡ crosses after n p
unfolding crosses
crosses-single after n p h = rw (lt-leb 2 n h) (sym (and-false after))

pub crosses_two_or_more : (after : Bool) (n : ℕ) (p : List ℕ) (r : Bool) → not after ≡ false → 2 ≤ n → r ≡ component_ends p → r ≡ crosses after n p
unfolding crosses
crosses_two_or_more true n p r a h q = rw (le-leb 2 n h) q
crosses_two_or_more false n p r a h q = absurd (false≢true (sym a))

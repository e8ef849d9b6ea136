-- A test of every number below a bound, which is computed, and what it shows of each: a table's rule is one such test.
-- And what is known of a place that no arm of a `match` stands for.
use Rattle.std.proofs.lemmas.Bool.{and_parts}
use mathlib.Core.Path.{◌≡◌, sym, ap, ◌∙◌}
use mathlib.Core.Logic.{⊎_elim}
use mathlib.Core.Bool.{Bool, true, ◌&&◌}
use mathlib.Core.List.{List}
use Prim.Native.Nat.{ℕ, zero, suc, ◌<◌, ◌≤◌}
use native.Mathlib.Nat.{not-suc-le-zero, le_of_suc-le-suc, eq-or-lt_of_le}
use native.Mathlib.Omega.{arith}
use lib.ListN.{length, get_or, get_or-eq_default}

abbrev pub all_below : ℕ → (ℕ → Bool) → Bool
all_below zero f = true
all_below (suc n) f = f n && all_below n f

pub all_at : (n : ℕ) (f : ℕ → Bool) → all_below n f ≡ true → (k : ℕ) → k < n → f k ≡ true
all_at zero f e k h = absurd (not-suc-le-zero h)
all_at (suc n) f e k h =
    let both = and_parts (f n) (all_below n f) e in
    ⊎_elim (λ (q : k ≡ n). ap f q ∙ both.0) (λ (l : k < n). all_at n f both.1 k l) (eq-or-lt_of_le (le_of_suc-le-suc h))

-- the same of a table with rows of m entries
pub all_at_rows : (n m : ℕ) (f : ℕ → ℕ → Bool) → all_below n (λ k. all_below m (f k)) ≡ true → (k j : ℕ) → k < n → j < m → f k j ≡ true
all_at_rows n m f e k j hk hj = all_at m (f k) (all_at n (λ i. all_below m (f i)) e k hk) j hj

-- i is none of the numbers below n, each the number of an arm
abbrev NoneBelow : ℕ → ℕ → Type 0
NoneBelow zero i = Unit {0}
NoneBelow (suc n) i = NoneBelow n i × (i ≡ n → ⊥)

none_below : (n i : ℕ) → NoneBelow n i → n ≤ i
none_below zero i h = omega arith
none_below (suc n) i h = let l = none_below n i h.0 in let e = h.1 in omega arith

-- then a table of n rows has none at i
pub no_row : (rows : List ℕ) (n i : ℕ) → length rows ≡ n → NoneBelow n i → 0 ≡ get_or rows i 0
no_row rows n i e h = let l = none_below n i h in sym (get_or-eq_default rows 0 (omega arith))

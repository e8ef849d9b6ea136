-- What `above` means, and that `Lends` says "exactly when".
use Prim.Native.Nat.{ℕ, ◌≤◌}
use mathlib.Core.Path.{◌≡◌, refl, sym, ap}
use mathlib.Core.Bool.{Bool, true, false, ◌&&◌, false≢true}
use mathlib.Core.Logic.{⊎_elim, ◌↔◌}
use mathlib.Core.List.{List, [], ◌∷◌, ◌++◌}
use native.Mathlib.Omega.{arith}
use borrow.Author.Tests.{eqb-true, eq-eqb}
use lib.Dec.{eqb}
use lib.ListN.{length}
use lib.Seq.{length-take-le}
use Rattle.lending.specs.declared.Lent.{Lent}
use Rattle.lending.specs.Lending.{above, Lists, Front, Holds, NoRoom}

-- the path is the directory, with its slash, and at least one byte more
abbrev pub Above : List ℕ → List ℕ → Type 0
Above directory path = (b : ℕ) × (rest : List ℕ) × (path ≡ directory ++ b ∷ rest)

pub stands : (d p : List ℕ) → above d p ≡ true → Above d p
unfolding above
stands [] [] e = absurd (false≢true e)
stands [] (y ∷ p) e = (y, p, refl)
stands (x ∷ d) [] e = absurd (false≢true e)
stands (x ∷ d) (y ∷ p) e = go (eqb x y) refl e (stands d p)
  where
    go : (t : Bool) → eqb x y ≡ t → (t && above d p) ≡ true → (above d p ≡ true → Above d p) → Above (x ∷ d) (y ∷ p)
    go true q h f = let s = f h in (s.0, s.1, rw (eqb-true x y q, s.2))
    go false q h f = absurd (false≢true h)

shown : (d p : List ℕ) → Above d p → above d p ≡ true
unfolding above
shown [] [] h = absurd (omega (arith, ap length h.2))
shown [] (y ∷ p) h = refl
shown (x ∷ d) [] h = absurd (omega (arith, ap length h.2))
shown (x ∷ d) (y ∷ p) h = let e : y ≡ x = cc h.2 in let f : p ≡ d ++ h.0 ∷ h.1 = cc h.2 in rw (eq-eqb x y (sym e)) (shown d p (h.0, h.1, f))

-- `above` is true exactly when the directory stands above the path
pub above-means : (directory path : List ℕ) → (above directory path ≡ true) ↔ Above directory path
above-means d p = (stands d p, shown d p)

front_room : (k : ℕ) (buffer list : List ℕ) → Front k buffer list → length list ≤ length buffer
front_room k buffer list h = omega (arith, h.0, length-take-le k buffer h.0, ap length h.1)

-- `Full` is answered exactly when there is no room: where the lists stand at the front of the buffers, there is
pub done_or_full : (l : Lists) (lent : Lent) (rules ends bases numbers : List ℕ) → Holds l lent rules ends bases numbers → NoRoom l rules ends bases numbers → ⊥
unfolding Holds NoRoom
done_or_full l lent r e b n h x =
    ⊎_elim (λ y. absurd (omega (arith, y, front_room lent.bytes r l.rules h.0)))
    (λ x. ⊎_elim (λ y. absurd (omega (arith, y, front_room lent.files e l.ends h.1.0)))
    (λ x. ⊎_elim (λ y. absurd (omega (arith, y, front_room lent.files b l.bases h.1.1.0)))
    (λ y. absurd (omega (arith, y, front_room lent.files n l.numbers h.1.1.1))) x) x) x

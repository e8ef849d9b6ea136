-- Folding case: a letter by its two forms; `/` is left alone.
use mathlib.Core.Path.{◌≡◌, refl, sym, ap₂, subst, ◌∙◌}
use mathlib.Core.Bool.{Bool, true, false, cond, ◌&&◌, ◌||◌, false≢true, or_self}
use Prim.Native.Nat.{ℕ}
use native.Mathlib.Omega.{arith}
use lib.Dec.{eqb, leb}
use borrow.Author.Tests.{leb-true, eqb-true, ne_eqb}
use Rattle.bytestrings.specs.Text.{char}
use Rattle.bytestrings.specs.Letters.{lower, upper, folded}

-- a byte x that is changed to y only where neither is `/`
kept : (a b : Bool) (x y : ℕ) → (a ≡ true → (y ≡ char "/" → ⊥) × (x ≡ char "/" → ⊥)) → eqb (cond (a && b) y x) (char "/") ≡ eqb x (char "/")
kept true true x y h = ne_eqb y (char "/") (h refl).0 ∙ sym (ne_eqb x (char "/") (h refl).1)
kept true false x y h = refl
kept false b x y h = refl

lower_slash : (x : ℕ) → eqb (lower x) (char "/") ≡ eqb x (char "/")
lower_slash x = kept (leb (char "A") x) _ x _ (λ e. let h = leb-true (char "A") x e in (λ q. omega arith, λ q. omega arith))

upper_slash : (x : ℕ) → eqb (upper x) (char "/") ≡ eqb x (char "/")
upper_slash x = kept (leb (char "a") x) _ x _ (λ e. let h = leb-true (char "a") x e in (λ q. omega arith, λ q. omega arith))

pub folded_slash : (fold : Bool) (x : ℕ) → folded fold (λ y. eqb y (char "/")) x ≡ eqb x (char "/")
unfolding folded
folded_slash true x = ap₂ ◌||◌ (lower_slash x) (upper_slash x) ∙ or_self (eqb x (char "/"))
folded_slash false x = refl

-- only the literal `/` accepts `/`
slash_only : (fold : Bool) (c : ℕ) → folded fold (λ z. eqb z c) (char "/") ≡ true → c ≡ char "/"
unfolding folded
slash_only true c e = sym (eqb-true (char "/") c (sym (or_self (eqb (char "/") c)) ∙ e))
slash_only false c e = sym (eqb-true (char "/") c e)

-- where a literal accepts a byte other than `/`, it accepts no `/`
pub folded_same : (fold : Bool) (c x y : ℕ) → folded fold (λ z. eqb z c) x ≡ true → eqb x (char "/") ≡ false
    → folded fold (λ z. eqb z c) y ≡ true → eqb y (char "/") ≡ false
folded_same fold c x y hx nx hy = ne_eqb y (char "/") (λ e. false≢true (sym nx ∙ sym (folded_slash fold x) ∙ other (subst (λ (k : ℕ). folded fold (λ z. eqb z c) k ≡ true) e hy)))
  where
    other : folded fold (λ z. eqb z c) (char "/") ≡ true → folded fold (λ z. eqb z (char "/")) x ≡ true
    other h = subst (λ (k : ℕ). folded fold (λ z. eqb z k) x ≡ true) (slash_only fold c h) hx

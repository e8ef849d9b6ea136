-- A name, byte for byte.
use mathlib.Core.Path.{◌≡◌, refl, sym, ap, ◌∙◌}
use mathlib.Core.Logic.{inl, inr, ⊎_elim, ◌↔◌}
use mathlib.Core.Bool.{Bool, true, not, ◌&&◌}
use mathlib.Core.List.{List, [], ◌∷◌}
use Prim.Native.Nat.{ℕ, ◌<◌, ◌≤◌}
use native.Mathlib.Omega.{arith}
use lib.ListN.{length}
use borrow.Author.Tests.{not-true}
use Rattle.std.specs.List.{list_all}
use Rattle.refusals.specs.Limits.{name_limit}
use Rattle.bytestrings.proofs.BoolLaws.{yes_iff}
use Rattle.attributenames.specs.Names.{name_byte, name_bytes, good_name, BadName}

-- all bytes, by the library's word
every : (s : List ℕ) → list_all name_byte s ≡ name_bytes s
every [] = refl
every (b ∷ s) = ap (λ r. name_byte b && r) (every s)

pub all_may : (s : List ℕ) (r : Bool) → r ≡ list_all name_byte s → r ≡ name_bytes s
all_may s r e = e ∙ every s

-- A name, by its length and whether it is good.
pub name_long : (s : List ℕ) → name_limit < length s → (true ≡ true) ↔ BadName s
unfolding BadName
name_long s h = yes_iff (inl h)

pub name_bad : (s : List ℕ) (r : Bool) → length s ≤ name_limit → r ≡ good_name s → (not r ≡ true) ↔ BadName s
unfolding BadName
name_bad s r l e =
    (λ h. inr (sym e ∙ not-true r h), λ b. ⊎_elim (λ h. absurd (omega arith)) (λ h. ap not (e ∙ h)) b)

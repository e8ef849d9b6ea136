-- A directory without its last slash, by its last byte.
use Prim.Native.Nat.{ℕ, suc, ◌-◌}
use mathlib.Core.Path.{◌≡◌, refl, sym}
use mathlib.Core.List.{List, [], ◌∷◌}
use native.Mathlib.Omega.{arith}
use borrow.Author.Tests.{eq-eqb, ne_eqb}
use lib.ListN.{length, take, get_or}
use Rattle.bytestrings.specs.Text.{char}
use Rattle.entries.specs.Entries.{without_last_slash}
use Rattle.bytestrings.proofs.ByteLaws.{ends_last, without_last_lem}

pub nothing_kept : (s : List ℕ) → length s ≡ 0 → s ≡ without_last_slash s
nothing_kept [] h = refl
nothing_kept (x ∷ s) h = absurd (omega arith)

pub slash_goes : (s : List ℕ) → (length s ≡ 0 → ⊥) → get_or s (length s - 1) 0 ≡ char "/" → take (length s - 1) s ≡ without_last_slash s
slash_goes s h e =
    let k : length s ≡ suc (length s - 1) = omega arith in
    rw (ends_last (char "/") s (length s - 1) k, eq-eqb (get_or s (length s - 1) 0) (char "/") e) (sym (without_last_lem s (length s - 1) k))

pub other_stays : (s : List ℕ) → (length s ≡ 0 → ⊥) → (get_or s (length s - 1) 0 ≡ char "/" → ⊥) → s ≡ without_last_slash s
other_stays s h e =
    let k : length s ≡ suc (length s - 1) = omega arith in
    rw (ends_last (char "/") s (length s - 1) k, ne_eqb (get_or s (length s - 1) 0) (char "/") e)

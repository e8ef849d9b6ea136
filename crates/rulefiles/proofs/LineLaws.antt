-- The first line of some bytes and those after it, and where it ends.
use mathlib.Core.Path.{◌≡◌, refl, ap, ◌∙◌}
use mathlib.Core.List.{List, [], ◌∷◌}
use mathlib.Core.Bool.{Bool, true, false, cond}
use Prim.Native.Nat.{ℕ, suc, ◌+◌, ◌<◌, ◌≤◌}
use native.Mathlib.Omega.{arith}
use lib.Dec.{eqb}
use lib.ListN.{length, take, drop}
use Rattle.bytestrings.specs.Text.{newline}
use Rattle.bytestrings.proofs.UntilLaws.{until_fits}
use Rattle.rulefiles.specs.RuleFiles.{onto, split, line_length}

pub split_none : (d : List ℕ) → length d ≤ 0 → split d ≡ []
unfolding split
split_none [] h = refl
split_none (b ∷ d) h = absurd (omega arith)

turn : (t : Bool) (b k : ℕ) (s : List ℕ) → onto b (split s) ≡ (b ∷ take k s) ∷ split (drop (k + 1) s)
    → cond t ([] ∷ split s) (onto b (split s)) ≡ take (cond t 0 (suc k)) (b ∷ s) ∷ split (drop (cond t 0 (suc k) + 1) (b ∷ s))
turn true b k s h = refl
turn false b k s h = let e : suc (k + 1) ≡ suc k + 1 = omega arith in h ∙ ap (λ (n : ℕ). (b ∷ take k s) ∷ split (drop n (b ∷ s))) e

-- bytes that are not none: their first line, and the lines of what follows its newline
pub split_first : (d : List ℕ) → 0 < length d → split d ≡ take (line_length d) d ∷ split (drop (line_length d + 1) d)
unfolding split
split_first [] h = absurd (omega arith)
split_first (b ∷ []) h = turn (eqb b newline) b 0 [] refl
split_first (b ∷ c ∷ s) h = turn (eqb b newline) b (line_length (c ∷ s)) (c ∷ s) (ap (onto b) (split_first (c ∷ s) (omega arith)))

pub line_fits : (d : List ℕ) → line_length d ≤ length d
line_fits d = until_fits (λ b. eqb b newline) d

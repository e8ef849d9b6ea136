-- The bytes of a name: the rule of the table that holds them as bits, and what the bit of a byte settles.
use mathlib.Core.Path.{◌≡◌, refl, sym, ap, ◌∙◌}
use mathlib.Core.Bool.{Bool, true, false, beq}
use mathlib.Core.List.{List, [], ◌∷◌, map}
use Prim.Native.Nat.{ℕ, suc, ◌+◌, ◌-◌, ◌/◌, ◌%◌, ◌^◌, ◌<◌, ◌≤◌}
use lib.Dec.{eqb}
use lib.ListN.{get_or, get_or-eq_default}
use Rattle.classnames.proofs.TableLaws.{all_at_rows}
use Rattle.classnames.specs.Names.{table, spans, in_spans, named}

-- the bytes of some ranges as one number, a bit for each byte
abbrev bits_of : List (ℕ × ℕ) → ℕ
bits_of [] = 0
bits_of (s ∷ ss) = 2 ^ suc s.1 - 2 ^ s.0 + bits_of ss

-- the table, as the definition gives it, in words of 64 bits
abbrev pub rows : List (List ℕ)
rows = map (λ ss. bits_of ss % 2 ^ 64 ∷ bits_of ss / 2 ^ 64 ∷ 0 ∷ 0 ∷ []) spans

beq_same : (a b : Bool) → beq a b ≡ true → a ≡ b
beq_same true true e = refl
beq_same true false e = sym e
beq_same false true e = e
beq_same false false e = refl

-- the table's rule, one test of every name and byte: a bit is set exactly where the name lists the byte
bit_rule : (k x : ℕ) → k < 12 → x < 256 → eqb (get_or (get_or rows k []) (x / 64) 0 / 2 ^ (x % 64) % 2) 1 ≡ named k x
unfolding named table spans
bit_rule k x hk hx = beq_same _ _ (all_at_rows 12 256 (λ k x. beq (eqb (get_or (get_or rows k []) (x / 64) 0 / 2 ^ (x % 64) % 2) 1) (named k x)) refl k x hk hx)

pub named_bit : (k x : ℕ) (words : List ℕ) → k < 12 → x < 256 → words ≡ get_or rows k [] → eqb (get_or words (x / 64) 0 / 2 ^ (x % 64) % 2) 1 ≡ named k x
named_bit k x words hk hx e = ap (λ (w : List ℕ). eqb (get_or w (x / 64) 0 / 2 ^ (x % 64) % 2) 1) e ∙ bit_rule k x hk hx

pub named_none : (k x : ℕ) → 12 ≤ k → false ≡ named k x
unfolding named table spans
named_none k x h = sym (ap (λ (ss : List (ℕ × ℕ)). in_spans ss x) (get_or-eq_default spans [] h))

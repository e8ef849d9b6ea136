-- A line's CR, trailing spaces, `!` and first byte, by the tests of the code.
use Prim.Native.Nat.{ℕ, zero, suc, ◌+◌, ◌-◌, ◌<◌, ◌≤◌}
use native.Mathlib.Omega.{arith}
use mathlib.Core.Path.{◌≡◌, refl, sym, ap, ◌∙◌}
use mathlib.Core.Bool.{Bool, true, false, not, cond, ◌&&◌}
use mathlib.Core.List.{List, [], ◌∷◌}
use Rattle.std.specs.Prelude.{Option, None, Some}
use Rattle.std.specs.Bool.{then_some}
use lib.Dec.{eqb}
use lib.ListN.{length, take, drop, get_or, drop_of_length-le}
use borrow.Author.Tests.{eq-eqb, ne_eqb, eqb-true}
use Rattle.bytestrings.specs.Text.{char, carriage_return}
use Rattle.bytestrings.proofs.SliceLaws.{from, from-drop, next}
use Rattle.bytestrings.proofs.OrderLaws.{one_after}
use Rattle.entries.specs.Entries.{bare_matches, pattern_matches, Subject}
use Rattle.bytestrings.proofs.ByteLaws.{ends_last, without_last_lem}
use Rattle.ignorelines.specs.declared.Verdict.{Verdict}
use Rattle.ignorelines.specs.declared.Verdict.TheVariants.{Ignored, Reincluded}
use Rattle.ignorelines.specs.IgnoreLines.{without_cr, skipped, space_before, kept, stripped, negated, without_not, rule_effect, line_effect}

-- the CR
pub cr_dropped : (l : List ℕ) → (length l ≡ 0 → ⊥) → get_or l (length l - 1) 0 ≡ carriage_return → take (length l - 1) l ≡ without_cr l
unfolding without_cr
cr_dropped l n e =
    rw (ends_last carriage_return l (length l - 1) (one_after (length l) n) ∙ eq-eqb (get_or l (length l - 1) 0) carriage_return e) (sym (without_last_lem l (length l - 1) (one_after (length l) n)))

pub cr_none : (l : List ℕ) → (1 ≤ length l → get_or l (length l - 1) 0 ≡ carriage_return → ⊥) → l ≡ without_cr l
unfolding without_cr
cr_none [] e = refl
cr_none (x ∷ l) e = rw (ends_last carriage_return (x ∷ l) (length (x ∷ l) - 1) (omega arith) ∙ ne_eqb (get_or (x ∷ l) (length (x ∷ l) - 1) 0) carriage_return (e (omega arith)))

-- trailing spaces: what stays where n bytes stay from place i on, and `keep` before it
abbrev pub reach : ℕ → ℕ → ℕ → ℕ
reach keep i zero = keep
reach keep i (suc n) = i + suc n

-- the byte after b is escaped; `escaped`: b is
abbrev pub escapes_next : ℕ → Bool → Bool
escapes_next b escaped = not escaped && eqb b (char "\\")

-- how many bytes are known to stay after byte b, which stands before the place `next`; `keep` before it
abbrev pub kept_after : ℕ → ℕ → ℕ → Bool → ℕ
kept_after keep next b escaped = cond (not escaped && eqb b (char " ")) keep next

reach_keeps : (keep i n : ℕ) → reach keep i (suc n) ≡ reach (i + 1) (i + 1) n
reach_keeps keep i zero = refl
reach_keeps keep i (suc n) = omega arith

reach_space : (keep i n : ℕ) → reach keep i (space_before n) ≡ reach keep (i + 1) n
reach_space keep i zero = refl
reach_space keep i (suc n) = omega arith

kept-without_last : (b : ℕ) (s : List ℕ) (keep i : ℕ) (escaped : Bool) → reach keep i (kept escaped (b ∷ s)) ≡ reach (kept_after keep (i + 1) b escaped) (i + 1) (kept (escapes_next b escaped) s)
unfolding kept
kept-without_last b s keep i true = reach_keeps keep i (kept false s)
kept-without_last b s keep i false = go (eqb b (char "\\")) (eqb b (char " ")) (λ e. ap (λ (x : ℕ). eqb x (char " ")) (eqb-true b (char "\\") e))
  where
    go : (p q : Bool) → (p ≡ true → q ≡ false) → reach keep i (cond p (suc (kept true s)) (cond q (space_before (kept false s)) (suc (kept false s)))) ≡ reach (cond q keep (i + 1)) (i + 1) (kept p s)
    go true q e = rw (e refl) (reach_keeps keep i (kept true s))
    go false true e = reach_space keep i (kept false s)
    go false false e = reach_keeps keep i (kept false s)

pub kept_step : (s : List ℕ) (keep i : ℕ) (escaped : Bool) → i < length s
    → reach keep i (kept escaped (drop i s)) ≡ reach (kept_after keep (i + 1) (get_or s i 0) escaped) (i + 1) (kept (escapes_next (get_or s i 0) escaped) (drop (i + 1) s))
kept_step s keep i escaped h = ap (λ (d : List ℕ). reach keep i (kept escaped d)) (next s i h) ∙ kept-without_last (get_or s i 0) (drop (i + 1) s) keep i escaped

pub kept_begin : (s : List ℕ) → kept false s ≡ reach 0 0 (kept false s)
kept_begin s = go (kept false s)
  where
    go : (n : ℕ) → n ≡ reach 0 0 n
    go zero = refl
    go (suc n) = omega arith

pub kept_end : (s : List ℕ) (keep i : ℕ) (escaped : Bool) → length s ≤ i → reach keep i (kept escaped (drop i s)) ≡ keep
unfolding kept
kept_end s keep i escaped h = rw (drop_of_length-le s {i = i} h)

-- a line that ends in no space keeps all its bytes
kept_last : (escaped : Bool) (s : List ℕ) (n : ℕ) → length s ≡ suc n → (get_or s n 0 ≡ char " " → ⊥) → kept escaped s ≡ suc n
unfolding kept
kept_last escaped [] n h e = absurd (omega arith)
kept_last true (x ∷ []) zero h e = refl
kept_last false (x ∷ []) zero h e = rw (ne_eqb x (char " ") e) (either (eqb x (char "\\")))
  where
    either : (b : Bool) → ◌≡◌ {A = ℕ} (cond b 1 1) 1
    either true = refl
    either false = refl
kept_last escaped (x ∷ []) (suc n) h e = absurd (omega arith)
kept_last escaped (x ∷ y ∷ s) zero h e = absurd (omega arith)
kept_last true (x ∷ y ∷ s) (suc n) h e = ap suc (kept_last false (y ∷ s) n (omega arith) e)
kept_last false (x ∷ y ∷ s) (suc n) h e = go (eqb x (char "\\")) (eqb x (char " ")) (kept_last true (y ∷ s) n (omega arith) e) (kept_last false (y ∷ s) n (omega arith) e)
  where
    go : (p q : Bool) → kept true (y ∷ s) ≡ suc n → kept false (y ∷ s) ≡ suc n → cond p (suc (kept true (y ∷ s))) (cond q (space_before (kept false (y ∷ s))) (suc (kept false (y ∷ s)))) ≡ suc (suc n)
    go true q a b = ap suc a
    go false true a b = ap space_before b
    go false false a b = ap suc b

pub kept_all : (s : List ℕ) → (1 ≤ length s → get_or s (length s - 1) 0 ≡ char " " → ⊥) → length s ≡ kept false s
unfolding kept
kept_all [] e = refl
kept_all (x ∷ s) e = let m : length (x ∷ s) - 1 ≡ length s = omega arith in sym (kept_last false (x ∷ s) (length s) refl (λ h. e (omega arith) (rw m h)))

-- no more bytes stay than there are
pub kept_fits : (escaped : Bool) (s : List ℕ) → kept escaped s ≤ length s
unfolding kept
kept_fits escaped [] = omega arith
kept_fits true (x ∷ s) = omega (arith, kept_fits false s)
kept_fits false (x ∷ s) = go (eqb x (char "\\")) (eqb x (char " ")) (kept_fits true s) (kept_fits false s)
  where
    space : (n : ℕ) → n ≤ length s → space_before n ≤ suc (length s)
    space zero h = omega arith
    space (suc n) h = omega arith

    go : (p q : Bool) → kept true s ≤ length s → kept false s ≤ length s → cond p (suc (kept true s)) (cond q (space_before (kept false s)) (suc (kept false s))) ≤ suc (length s)
    go true q a b = omega arith
    go false true a b = space (kept false s) b
    go false false a b = omega arith

-- the effect of a stripped line, by its first byte
module _ (subject : Subject) where
  said : {A : Type 0} (b : Bool) (v : A) → then_some b v ≡ cond b (Some v) None
  said true v = refl
  said false v = refl

  pub rule_negated : (l : List ℕ) → 1 ≤ length l → get_or l 0 0 ≡ char "!" → then_some (pattern_matches subject (from 1 l)) Reincluded ≡ rule_effect subject l
  unfolding rule_effect negated without_not
  rule_negated [] h e = absurd (omega arith)
  rule_negated (x ∷ l) h e = rw (eq-eqb x (char "!") e, from-drop 1 (x ∷ l)) (said (pattern_matches subject l) Reincluded)

  pub rule_plain : (l : List ℕ) → (1 ≤ length l → get_or l 0 0 ≡ char "!" → ⊥) → then_some (pattern_matches subject l) Ignored ≡ rule_effect subject l
  unfolding rule_effect negated without_not
  rule_plain [] e = said (pattern_matches subject []) Ignored
  rule_plain (x ∷ l) e = rw (ne_eqb x (char "!") (e (omega arith))) (said (pattern_matches subject (x ∷ l)) Ignored)

  -- a line that is skipped, or goes on to its rule
  pub line_empty : (l c : List ℕ) → c ≡ without_cr l → length c < 1 → None ≡ line_effect subject l
  unfolding line_effect skipped
  line_empty l [] e h = rw (sym e)
  line_empty l (x ∷ c) e h = absurd (omega arith)

  pub line_comment : (l c : List ℕ) → c ≡ without_cr l → 1 ≤ length c → get_or c 0 0 ≡ char "#" → None ≡ line_effect subject l
  unfolding line_effect skipped
  line_comment l [] e n h = absurd (omega arith)
  line_comment l (x ∷ c) e n h = rw (sym e, eq-eqb x (char "#") h)

  pub line_rule : (l c : List ℕ) (n : ℕ) (w : Option Verdict) → c ≡ without_cr l → 1 ≤ length c → (get_or c 0 0 ≡ char "#" → ⊥) → n ≡ kept false c → w ≡ rule_effect subject (take n c)
      → w ≡ line_effect subject l
  unfolding line_effect skipped stripped
  line_rule l [] n w e p h k v = absurd (omega arith)
  line_rule l (x ∷ c) n w e p h k v = rw (sym e, ne_eqb x (char "#") h, sym k) v

-- an empty rule says nothing
pub rule_empty : (subject : Subject) (l : List ℕ) → length l ≡ 0 → None ≡ rule_effect subject l
unfolding rule_effect without_not pattern_matches bare_matches
rule_empty subject [] h = refl
rule_empty subject (x ∷ l) h = absurd (omega (arith, h))

-- A mention's name and state, and which patterns drop a line, by the tests of the code.
use Prim.Native.Nat.{ℕ, suc, ◌+◌, ◌-◌, ◌<◌, ◌≤◌}
use native.Mathlib.Omega.{arith}
use native.Mathlib.Nat.{le_refl}
use mathlib.Core.Path.{◌≡◌, refl, sym, ap, ◌∙◌}
use mathlib.Core.Bool.{Bool, true, false, cond, ◌||◌, false≢true}
use mathlib.Core.List.{List, [], ◌∷◌, ◌++◌}
use Rattle.std.proofs.lemmas.Bool.{and_parts, false_from_ne_true}
use Rattle.std.specs.Prelude.{Some, None, position}
use Rattle.std.proofs.lemmas.List.Quantifiers.{position-Some}
use lib.Dec.{eqb, ltb}
use lib.ListN.{length, take, drop, get_or, length-drop}
use lib.Seq.{take_all}
use borrow.Author.Tests.{eq-eqb, ne_eqb, eqb-true, eqb-false, ltb-true, lt-ltb}
use Rattle.bytestrings.specs.Text.{char, text}
use Rattle.bytestrings.specs.Bytes.{has, begins_with}
use Rattle.bytestrings.proofs.SliceLaws.{from, from-drop, next}
use Rattle.bytestrings.proofs.UntilLaws.{until_position, until_no_position}
use Rattle.attributelines.specs.AttributeLines.{name_length, name_in, Mention, plain_mention, mention, definition, pattern_dropped}
use Rattle.attributelines.specs.declared.State.TheVariants.{Set, Unset, Value, Unspecified}

-- a definition, by its first bytes
pub definition_yes : (p : List ℕ) → 7 ≤ length p → get_or p 0 0 ≡ char "[" → get_or p 1 0 ≡ char "a" → get_or p 2 0 ≡ char "t" → get_or p 3 0 ≡ char "t" → get_or p 4 0 ≡ char "r"
    → get_or p 5 0 ≡ char "]" → true ≡ definition p
unfolding definition
definition_yes (a ∷ b ∷ c ∷ d ∷ e ∷ f ∷ g ∷ p) l q r s t u v =
    rw (eq-eqb a (char "[") q, eq-eqb b (char "a") r, eq-eqb c (char "t") s, eq-eqb d (char "t") t, eq-eqb e (char "r") u, eq-eqb f (char "]") v, lt-ltb 6 (length (a ∷ b ∷ c ∷ d ∷ e ∷ f ∷ g ∷ p)) l)
definition_yes ([]) l q r s t u v = absurd (omega arith)
definition_yes (a ∷ []) l q r s t u v = absurd (omega arith)
definition_yes (a ∷ b ∷ []) l q r s t u v = absurd (omega arith)
definition_yes (a ∷ b ∷ c ∷ []) l q r s t u v = absurd (omega arith)
definition_yes (a ∷ b ∷ c ∷ d ∷ []) l q r s t u v = absurd (omega arith)
definition_yes (a ∷ b ∷ c ∷ d ∷ e ∷ []) l q r s t u v = absurd (omega arith)
definition_yes (a ∷ b ∷ c ∷ d ∷ e ∷ f ∷ []) l q r s t u v = absurd (omega arith)

begins_as : (w s : List ℕ) → begins_with w s ≡ true → s ≡ w ++ drop (length w) s
begins_as [] s h = refl
begins_as (x ∷ w) [] h = absurd (false≢true h)
begins_as (x ∷ w) (b ∷ s) h =
    let e = and_parts (eqb b x) (begins_with w s) h in
    ap (λ (c : ℕ). c ∷ s) (eqb-true b x e.0) ∙ ap (λ (l : List ℕ). x ∷ l) (begins_as w s e.1)

pub definition_no : (p : List ℕ) → (7 ≤ length p → get_or p 0 0 ≡ char "[" → get_or p 1 0 ≡ char "a" → get_or p 2 0 ≡ char "t" → get_or p 3 0 ≡ char "t" → get_or p 4 0 ≡ char "r"
    → get_or p 5 0 ≡ char "]" → ⊥) → false ≡ definition p
unfolding definition
definition_no p n =
    sym (false_from_ne_true _ (λ h.
    let e = and_parts (begins_with (text "[attr]") p) (ltb 6 (length p)) h in
    let b : p ≡ text "[attr]" ++ drop 6 p = begins_as (text "[attr]") p e.0 in
    let at : (i : ℕ) → get_or p i 0 ≡ get_or (text "[attr]" ++ drop 6 p) i 0 = λ i. ap (λ (l : List ℕ). get_or l i 0) b in
    n (ltb-true 6 (length p) e.1) (at 0) (at 1) (at 2) (at 3) (at 4) (at 5)))

-- a pattern that drops its line, by its first byte
pub dropped_sign : (p : List ℕ) → 1 ≤ length p → ((get_or p 0 0 ≡ char "#" → ⊥) → (get_or p 0 0 ≡ char "!" → ⊥) → get_or p 0 0 ≡ char "\"") → true ≡ pattern_dropped p
unfolding pattern_dropped
dropped_sign [] l h = absurd (omega arith)
dropped_sign (x ∷ p) l h = go (eqb x (char "#")) refl (eqb x (char "!")) refl
  where
    go : (a : Bool) → eqb x (char "#") ≡ a → (b : Bool) → eqb x (char "!") ≡ b → true ≡ (a || (b || (eqb x (char "\"") || definition (x ∷ p))))
    go true e b f = refl
    go false e true f = refl
    go false e false f = rw (eq-eqb x (char "\"") (h (eqb-false x (char "#") e) (eqb-false x (char "!") f)))

pub dropped_plain : (p : List ℕ) (r : Bool) → (1 ≤ length p → get_or p 0 0 ≡ char "#" → ⊥) → (1 ≤ length p → get_or p 0 0 ≡ char "!" → ⊥) → (1 ≤ length p → get_or p 0 0 ≡ char "\"" → ⊥)
    → r ≡ definition p → r ≡ pattern_dropped p
unfolding pattern_dropped
dropped_plain [] r a b c e = e
dropped_plain (x ∷ p) r a b c e = rw (ne_eqb x (char "#") (a (omega arith)), ne_eqb x (char "!") (b (omega arith)), ne_eqb x (char "\"") (c (omega arith))) e

-- a name, by the place of the first `=`
abbrev equals : ℕ → Bool
equals b = eqb b (char "=")

module _ (w : List ℕ) where
  pub name_cut : (n : ℕ) → position equals w ≡ Some n → take n w ≡ name_in w
  unfolding name_in
  name_cut n e = ap (λ (k : ℕ). take k w) (sym (until_position equals w n e))

  pub name_whole : position equals w ≡ None → w ≡ name_in w
  unfolding name_in
  name_whole e = sym (ap (λ (k : ℕ). take k w) (until_no_position equals w e) ∙ take_all (length w) w (le_refl _))

  has_none : (l : List ℕ) → length l ≤ name_length l → has (char "=") l ≡ false
  has_none [] h = refl
  has_none (x ∷ l) h = go (eqb x (char "=")) h (has_none l)
    where
      go : (b : Bool) → suc (length l) ≤ cond b 0 (suc (name_length l)) → (length l ≤ name_length l → has (char "=") l ≡ false) → (b || has (char "=") l) ≡ false
      go true q ih = absurd (omega arith)
      go false q ih = ih (omega arith)

  has_some : (l : List ℕ) → name_length l < length l → has (char "=") l ≡ true
  has_some [] h = absurd (omega arith)
  has_some (x ∷ l) h = go (eqb x (char "=")) h (has_some l)
    where
      go : (b : Bool) → cond b 0 (suc (name_length l)) < suc (length l) → (name_length l < length l → has (char "=") l ≡ true) → (b || has (char "=") l) ≡ true
      go true q ih = refl
      go false q ih = ih (omega arith)

  module _ (at : ℕ) where
    -- `name=v`
    pub plain_value : (n : ℕ) → position equals w ≡ Some n → record { name = take n w; state = Value (record { start = at + n + 1; length = length w - (n + 1) }) } ≡ plain_mention at w
    unfolding plain_mention
    plain_value n e =
        let u = until_position equals w n e in
        let l : n < length w = (position-Some equals w n 0 e).0 in
        rw (sym (name_cut n e), has_some w (omega (arith, u)), u)

    -- `name`
    pub plain_set : position equals w ≡ None → record { name = w; state = Set } ≡ plain_mention at w
    unfolding plain_mention
    plain_set e = rw (sym (name_whole e), has_none w (omega (arith, until_no_position equals w e)))

-- a mention, by its first byte
pub mention_minus : (at : ℕ) (w : List ℕ) → 1 ≤ length w → get_or w 0 0 ≡ char "-" → record { name = name_in (from 1 w); state = Unset } ≡ mention at w
unfolding mention
mention_minus at [] h e = absurd (omega arith)
mention_minus at (x ∷ w) h e = rw (eq-eqb x (char "-") e, from-drop 1 (x ∷ w))

pub mention_not : (at : ℕ) (w : List ℕ) → 1 ≤ length w → get_or w 0 0 ≡ char "!" → record { name = name_in (from 1 w); state = Unspecified } ≡ mention at w
unfolding mention
mention_not at [] h e = absurd (omega arith)
mention_not at (x ∷ w) h e = rw (ne_eqb x (char "-") (λ f. omega arith), eq-eqb x (char "!") e, from-drop 1 (x ∷ w))

pub mention_plain : (at : ℕ) (w : List ℕ) → (1 ≤ length w → get_or w 0 0 ≡ char "-" → ⊥) → (1 ≤ length w → get_or w 0 0 ≡ char "!" → ⊥) → plain_mention at w ≡ mention at w
unfolding mention
mention_plain at [] h e = refl
mention_plain at (x ∷ w) h e = rw (ne_eqb x (char "-") (h (omega arith)), ne_eqb x (char "!") (e (omega arith)))

plain : (s : List ℕ) (at : ℕ) → at < length s → (get_or s at 0 ≡ char "-" → ⊥) → (get_or s at 0 ≡ char "!" → ⊥) → mention at (drop at s) ≡ plain_mention at (drop at s)
unfolding mention
plain s at h n m = rw (next s at h, ne_eqb (get_or s at 0) (char "-") n, ne_eqb (get_or s at 0) (char "!") m)

-- a `=`: the value after it, in the text in which the mention starts
pub state_value : (s : List ℕ) (at end : ℕ) → at < length s → (get_or s at 0 ≡ char "-" → ⊥) → (get_or s at 0 ≡ char "!" → ⊥) → end ≡ at + name_length (drop at s) → end < length s
    → Value (record { start = end + 1; length = length s - (end + 1) }) ≡ (mention at (drop at s)).state
unfolding plain_mention
state_value s at end h n m e q =
    let l : length (drop at s) ≡ length s - at = length-drop at s in
    let k : length (drop at s) - (name_length (drop at s) + 1) ≡ length s - (end + 1) = omega arith in
    sym (ap (λ (x : Mention). x.state) (plain s at h n m) ∙ rw (has_some [] (drop at s) (omega arith), k, sym e))

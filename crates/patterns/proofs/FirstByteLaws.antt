-- A pattern that begins with a byte which stands for itself matches no text but one that begins with a byte which this literal accepts.
use mathlib.Core.Path.{◌≡◌, sym, ◌∙◌}
use mathlib.Core.Bool.{Bool, true, false≢true, or-false}
use mathlib.Core.List.{List, [], ◌∷◌}
use Rattle.std.proofs.lemmas.Bool.{and_parts}
use Rattle.std.specs.Prelude.{Option, None, Some}
use Prim.Native.Nat.{ℕ}
use lib.Dec.{eqb}
use Rattle.bytestrings.specs.Text.{char}
use Rattle.bytestrings.specs.Letters.{folded}
use Rattle.patterns.proofs.ItemLaws.{literal_read}
use Rattle.patterns.specs.Items.{is_literal}
use Rattle.patterns.specs.Patterns.{Item, literal, and_item, items_from}
use Rattle.patterns.specs.Sharing.{accepts}
use Rattle.patterns.specs.MatchTest.{one_then, shares_test, shares_of, tail_matches, matches_test}
use Rattle.bytestrings.specs.Bytes.{is_empty}
use Rattle.patterns.specs.declared.Mode.{Mode}

-- the first byte is one that the literal c accepts
abbrev pub FirstTaken : Bool → ℕ → List ℕ → Type 0
FirstTaken fold c [] = ⊥
FirstTaken fold c (x ∷ t) = folded fold (λ y. eqb y c) x ≡ true

module _ (m : Mode) (c : ℕ) where
  one_first : (rest : List ℕ → Bool) (t : List ℕ) → one_then (accepts m (literal c)) rest t ≡ true → FirstTaken m.fold c t
  unfolding accepts
  one_first rest [] e = absurd (false≢true e)
  one_first rest (x ∷ t) e = (and_parts (folded m.fold (λ y. eqb y c) x) (rest t) e).0

  shares_first : (o : Option (List Item)) (t : List ℕ) → shares_of m (and_item (literal c) o) t ≡ true → FirstTaken m.fold c t
  shares_first None t e = absurd (false≢true e)
  shares_first (Some []) t e = one_first is_empty t e
  shares_first (Some (jt ∷ its)) t e = one_first (shares_test m (jt ∷ its)) t (sym (or-false (one_then (accepts m (literal c)) (shares_test m (jt ∷ its)) t)) ∙ e)

  pub first_taken : (p t : List ℕ) → is_literal c ≡ true → matches_test m (c ∷ p) t ≡ true → FirstTaken m.fold c t
  unfolding matches_test tail_matches items_from
  first_taken p t l e = shares_first (items_from p 0 (eqb c (char "/"))) t (rw (literal_read true c p l) at e)

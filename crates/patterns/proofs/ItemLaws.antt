-- Laws of the items that take one byte, by the tests that the code makes.
use mathlib.Core.Path.{◌≡◌, refl, sym, ap, ◌∙◌}
use mathlib.Core.Bool.{Bool, true, false, cond, not, false≢true}
use mathlib.Core.List.{List, [], ◌∷◌}
use Rattle.std.proofs.lemmas.Bool.{and_parts}
use Rattle.std.specs.Prelude.{Option, None, Some}
use Rattle.std.specs.Bool.{then_some}
use Prim.Native.Nat.{ℕ, ◌+◌, ◌<◌, ◌≤◌}
use native.Mathlib.Numerals.{add-one}
use native.Mathlib.Omega.{arith}
use lib.Dec.{eqb}
use lib.ListN.{length, get_or}
use borrow.Author.Tests.{eq-eqb, not-true}
use Rattle.bytestrings.specs.Text.{char}
use Rattle.bytestrings.specs.Letters.{folded}
use Rattle.classes.specs.Members.{Class, read_class, class_accepts, tested}
use Rattle.classes.specs.declared.class.Tested.{Tested}
use Rattle.classes.proofs.ClassLaws.{class_size_lem}
use Rattle.patterns.specs.Patterns.{item, read_item, read_bracket, literal}
use Rattle.patterns.specs.Sharing.{inside, accepts}
use Rattle.patterns.specs.Items.{is_literal, taken_by, taken}
use Rattle.patterns.specs.declared.Mode.{Mode}

some_if : (b : Bool) (n : ℕ) → then_some b n ≡ cond b (Some n) None
some_if true n = refl
some_if false n = refl

module _ (m : Mode) (x : ℕ) where
  pub taken-broken : (p : List ℕ) → get_or p 0 0 ≡ char "\\" → length p < 2 → None ≡ taken m p x
  unfolding taken taken_by read_item
  taken-broken [] e l = refl
  taken-broken (y ∷ []) e l = rw (eq-eqb y (char "\\") e)
  taken-broken (y ∷ z ∷ p) e l = absurd (omega arith)

  pub taken_escaped : (p : List ℕ) (s : Bool) (r : Option ℕ) → get_or p 0 0 ≡ char "\\" → 2 ≤ length p → s ≡ folded m.fold (λ y. eqb y (get_or p 1 0)) x → r ≡ cond s (Some 2) None → r ≡ taken m p x
  unfolding taken taken_by read_item accepts
  taken_escaped [] s r e l q k = absurd (omega arith)
  taken_escaped (y ∷ []) s r e l q k = absurd (omega arith)
  taken_escaped (y ∷ z ∷ p) s r e l q k = rw (eq-eqb y (char "\\") e, ← q) k

  -- a class takes no `/` in path mode
  pub class_outside : (o : Option Class) (i : Bool) → i ≡ inside m x → not i ≡ true → None ≡ taken_by m x (read_bracket o)
  unfolding accepts taken_by read_bracket
  class_outside None i e n = refl
  class_outside (Some c) true e n = absurd (false≢true n)
  class_outside (Some c) false e n = rw (← e) refl

  pub class_none : (o : Option Class) → None ≡ tested m.fold x o → None ≡ taken_by m x (read_bracket o)
  unfolding tested taken_by read_bracket
  class_none None e = refl
  class_none (Some c) e = absurd cc

  pub class_some : (o : Option Class) (i : Bool) (t : Tested) (r : Option ℕ) → i ≡ inside m x → not i ≡ false → Some t ≡ tested m.fold x o → r ≡ then_some t.accepts (t.size + 1)
      → r ≡ taken_by m x (read_bracket o)
  unfolding tested accepts taken_by read_bracket
  class_some None i t r h k e w = absurd cc
  class_some (Some c) false t r h k e w = absurd (false≢true (sym k))
  class_some (Some c) true t r h k e w =
      let f : t ≡ record { accepts = class_accepts m.fold c.negated c.list x; size = c.size } = cc in
      rw (← h, ← ap (λ (u : Tested). u.accepts) f, ← ap (λ (u : Tested). u.size) f, ← add-one t.size) (w ∙ some_if t.accepts (t.size + 1))

-- what a class is written with is within the pattern
pub class_fits : (fold : Bool) (x : ℕ) (q : List ℕ) (t : Tested) → Some t ≡ tested fold x (read_class q) → t.size ≤ length q
unfolding tested
class_fits fold x q t e = go (read_class q) refl e
  where
    go : (o : Option Class) → read_class q ≡ o → Some t ≡ tested fold x o → t.size ≤ length q
    go None k w = absurd cc
    go (Some c) k w =
        let f : t ≡ record { accepts = class_accepts fold c.negated c.list x; size = c.size } = cc in
        rw (ap (λ (u : Tested). u.size) f) (class_size_lem q c k).1

-- a byte that stands for itself is none of the four signs
pub literal_not : (c : ℕ) → is_literal c ≡ true → (eqb c (char "*") ≡ false) × (eqb c (char "?") ≡ false) × (eqb c (char "[") ≡ false) × (eqb c (char "\\") ≡ false)
unfolding is_literal
literal_not c e =
    let a = and_parts (not (eqb c (char "*"))) _ e in
    let b = and_parts (not (eqb c (char "?"))) _ a.1 in
    let d = and_parts (not (eqb c (char "["))) _ b.1 in
    (not-true _ a.0, not-true _ b.0, not-true _ d.0, not-true _ d.1)

pub literal_read : (after : Bool) (c : ℕ) (q : List ℕ) → is_literal c ≡ true → read_item after c q ≡ item (literal c) 1
unfolding read_item
literal_read after c q l = let n = literal_not c l in rw (n.3, n.1, n.0, n.2) refl

-- a literal accepts the byte or not
pub taken-plain : (m : Mode) (p : List ℕ) (x : ℕ) (s : Bool) (r : Option ℕ) → (length p ≡ 0 → ⊥) → is_literal (get_or p 0 0) ≡ true → s ≡ folded m.fold (λ y. eqb y (get_or p 0 0)) x
    → r ≡ cond s (Some 1) None → r ≡ taken m p x
unfolding taken taken_by accepts
taken-plain m [] x s r h l q k = absurd (h refl)
taken-plain m (c ∷ p) x s r h l q k = rw (literal_read false c p l, ← q) k

-- A pattern that ends in a byte which can only be a literal there matches no text but one that ends in a byte which this literal accepts.
use mathlib.Core.Path.{◌≡◌, refl, sym, ap, subst, ◌∙◌}
use mathlib.Core.Logic.{◌⊎◌, inl, inr, ⊎_elim}
use mathlib.Core.Bool.{Bool, true, false, cond}
use mathlib.Core.List.{List, [], ◌∷◌, ◌++◌}
use Rattle.std.specs.Prelude.{Option, None, Some}
use Prim.Native.Nat.{ℕ, zero, suc, ◌-◌, ◌<◌}
use native.Mathlib.Nat.{eq-or-lt_of_le}
use native.Mathlib.Omega.{arith}
use lib.Dec.{eqb}
use lib.ListN.{length, get_or}
use borrow.Author.Tests.{eqb-true, ne_eqb}
use Rattle.bytestrings.specs.Text.{char}
use Rattle.bytestrings.specs.Letters.{folded}
use Rattle.classes.specs.Members.{Class, members, read_class}
use Rattle.classes.proofs.ClassLaws.{class_size_lem}
use Rattle.patterns.proofs.ReadLaws.{by_cases}
use Rattle.patterns.specs.Patterns.{crossing_slash, Item, literal, run, First, broken, item, stars, read_run, read_escaped, read_bracket, read_item, and_item, items_after, items_from}
use Rattle.patterns.specs.Sharing.{accepts, Takes, Shares, none_left, shared, vanished, Matches}
use Rattle.patterns.specs.MatchTest.{matches_test}
use Rattle.patterns.proofs.Meaning.{test_decides}
use Rattle.patterns.specs.declared.Mode.{Mode}

-- with nothing after it, c is a literal, whether a `\` stands before it or not, or, a `\` itself, breaks the pattern: a run ends in `*`, a class
-- in `]`. A `/` may vanish
abbrev pub Plain : ℕ → Type 0
Plain c = (c ≡ char "*" → ⊥) × (c ≡ char "/" → ⊥) × (c ≡ char "?" → ⊥) × (c ≡ char "]" → ⊥)

-- the last byte is c
abbrev pub EndsIn : ℕ → List ℕ → Type 0
EndsIn c [] = ⊥
EndsIn c (x ∷ []) = x ≡ c
EndsIn c (x ∷ y ∷ p) = EndsIn c (y ∷ p)

-- the last byte is one that the literal c accepts
abbrev pub EndTaken : Bool → ℕ → List ℕ → Type 0
EndTaken fold c [] = ⊥
EndTaken fold c (x ∷ []) = folded fold (λ y. eqb y c) x ≡ true
EndTaken fold c (x ∷ y ∷ t) = EndTaken fold c (y ∷ t)

-- the last item is the literal c
abbrev LastIs : ℕ → List Item → Type 0
LastIs c [] = ⊥
LastIs c (it ∷ []) = it ≡ literal c
LastIs c (it ∷ jt ∷ its) = LastIs c (jt ∷ its)

-- the same of a pattern that is not broken
abbrev LastOf : ℕ → Option (List Item) → Type 0
LastOf c None = Unit {0}
LastOf c (Some its) = LastIs c its

-- an item that does not reach the end of p, or is the literal c and does
abbrev Fits : ℕ → List ℕ → First → Type 0
Fits c p broken = Unit {0}
Fits c p (item it n) = (n < length p) ⊎ ((n ≡ length p) × (it ≡ literal c))

-- no item follows one that reaches the end
items-passed : (p : List ℕ) (k : ℕ) (after : Bool) → k ≡ length p → Some [] ≡ items_from p k after
unfolding items_from
items-passed [] k after e = refl
items-passed (x ∷ p) zero after e = absurd (omega arith)
items-passed (x ∷ p) (suc k) after e = items-passed p k (eqb x (char "/")) (omega arith)

ends_last : (c : ℕ) (p : List ℕ) (n : ℕ) → length p ≡ suc n → EndsIn c p → get_or p n 0 ≡ c
ends_last c [] n l h = absurd h
ends_last c (x ∷ []) zero l h = h
ends_last c (x ∷ []) (suc n) l h = absurd (omega arith)
ends_last c (x ∷ y ∷ p) zero l h = absurd (omega arith)
ends_last c (x ∷ y ∷ p) (suc n) l h = ends_last c (y ∷ p) n (omega arith) h

last_more : (c : ℕ) (it : Item) (o : Option (List Item)) → LastOf c o → LastOf c (and_item it o)
last_more c it None h = tt
last_more c it (Some []) h = absurd h
last_more c it (Some (jt ∷ its)) h = h

module _ (c : ℕ) (plain : Plain c) where
  stars-before : (p : List ℕ) → EndsIn c p → stars p < length p
  unfolding stars
  stars-before [] h = absurd h
  stars-before (x ∷ []) h = rw (ne_eqb x (char "*") (λ e. plain.0 (sym h ∙ e))) (omega arith)
  stars-before (x ∷ y ∷ p) h = go (eqb x (char "*")) (stars-before (y ∷ p) h)
    where
      go : (b : Bool) → stars (y ∷ p) < length (y ∷ p) → cond b (suc (stars (y ∷ p))) 0 < suc (length (y ∷ p))
      go true l = omega arith
      go false l = omega arith

  class_before : (x : ℕ) (p : List ℕ) (o : Option Class) → read_class p ≡ o → EndsIn c p → Fits c (x ∷ p) (read_bracket o)
  unfolding read_bracket
  class_before x p None e h = tt
  class_before x p (Some k) e h =
      let s = class_size_lem p k e in
      ⊎_elim (λ q. let l : length p ≡ suc (k.size - 1) = omega (arith, s.0) in absurd (plain.3 (sym (ends_last c p (k.size - 1) l h) ∙ s.2)))
      (λ q. inl (omega arith)) (eq-or-lt_of_le s.1)

  escaped_before : (x y : ℕ) (p : List ℕ) → EndsIn c (y ∷ p) → Fits c (x ∷ y ∷ p) (read_escaped (y ∷ p))
  escaped_before x y [] h = inr (refl, ap literal h)
  escaped_before x y (z ∷ p) h = inl (omega arith)

  item-before : (after : Bool) (x y : ℕ) (p : List ℕ) → EndsIn c (y ∷ p) → Fits c (x ∷ y ∷ p) (read_item after x (y ∷ p))
  unfolding read_item read_run
  item-before after x y p h =
      by_cases (Fits c (x ∷ y ∷ p)) (eqb x (char "\\")) _ _ (λ e. escaped_before x y p h)
      (λ e. by_cases (Fits c (x ∷ y ∷ p)) (eqb x (char "?")) _ _ (λ e. inl (omega arith))
      (λ e. by_cases (Fits c (x ∷ y ∷ p)) (eqb x (char "*")) _ _ (λ e. inl (stars-before (x ∷ y ∷ p) h))
      (λ e. by_cases (Fits c (x ∷ y ∷ p)) (eqb x (char "[")) _ _ (λ e. class_before x (y ∷ p) (read_class (y ∷ p)) refl h)
      (λ e. inl (omega arith)))))

  one_last : (after : Bool) (x : ℕ) → x ≡ c → LastOf c (items_after (read_item after x []) (λ n. Some []))
  unfolding read_item read_bracket read_class members
  one_last after x h =
      by_cases (λ f. LastOf c (items_after f (λ n. Some []))) (eqb x (char "\\")) _ _ (λ e. tt)
      (λ e. by_cases (λ f. LastOf c (items_after f (λ n. Some []))) (eqb x (char "?")) _ _ (λ e. absurd (plain.2 (sym h ∙ eqb-true x (char "?") e)))
      (λ e. by_cases (λ f. LastOf c (items_after f (λ n. Some []))) (eqb x (char "*")) _ _ (λ e. absurd (plain.0 (sym h ∙ eqb-true x (char "*") e)))
      (λ e. by_cases (λ f. LastOf c (items_after f (λ n. Some []))) (eqb x (char "[")) _ _ (λ e. tt)
      (λ e. ap literal h))))

  -- where k bytes belong to an item that was read and more follow
  last_literal : (p : List ℕ) (k : ℕ) (after : Bool) → k < length p → EndsIn c p → LastOf c (items_from p k after)
  unfolding items_from
  last_literal [] k after l h = absurd h
  last_literal (x ∷ []) zero after l h = one_last after x h
  last_literal (x ∷ []) (suc k) after l h = absurd (omega arith)
  last_literal (x ∷ y ∷ p) zero after l h = go (read_item after x (y ∷ p)) (item-before after x y p h) (λ k l. last_literal (y ∷ p) k (eqb x (char "/")) l h)
    where
      go : (f : First) → Fits c (x ∷ y ∷ p) f → ((k : ℕ) → k < length (y ∷ p) → LastOf c (items_from (y ∷ p) k (eqb x (char "/"))))
          → LastOf c (items_after f (λ n. items_from (y ∷ p) n (eqb x (char "/"))))
      go broken b r = tt
      go (item it zero) b r = last_more c it (items_from (y ∷ p) 0 (eqb x (char "/"))) (r 0 (omega arith))
      go (item it (suc n)) (inl b) r = last_more c it (items_from (y ∷ p) n (eqb x (char "/"))) (r n (omega arith))
      go (item it (suc n)) (inr b) r = subst (λ (o : Option (List Item)). LastOf c (and_item it o)) (items-passed (y ∷ p) n (eqb x (char "/")) (omega (arith, b.0))) b.1
  last_literal (x ∷ y ∷ p) (suc k) after l h = last_literal (y ∷ p) k (eqb x (char "/")) (omega arith) h

  module _ (m : Mode) where
    taken_more : (w u : List ℕ) → EndTaken m.fold c u → EndTaken m.fold c (w ++ u)
    taken_more [] u h = h
    taken_more (x ∷ w) u h = go (w ++ u) (taken_more w u h)
      where
        go : (v : List ℕ) → EndTaken m.fold c v → EndTaken m.fold c (x ∷ v)
        go [] h = absurd h
        go (y ∷ v) h = h

    nothing_left : {u : List ℕ} → Shares m [] u → u ≡ []
    nothing_left none_left = refl

    literal_takes : (it : Item) (w : List ℕ) → it ≡ literal c → Takes m it w → EndTaken m.fold c (w ++ [])
    unfolding accepts
    literal_takes it w e h = let t = subst (λ (i : Item). Takes m i w) e h in rw t.1 t.2

    item_end : (it : Item) (its : List Item) (w u : List ℕ) → Takes m it w → Shares m its u → (LastIs c its → EndTaken m.fold c u) → LastIs c (it ∷ its)
        → EndTaken m.fold c (w ++ u)
    item_end it [] w u k s r h = rw (nothing_left s) (literal_takes it w h k)
    item_end it (jt ∷ its) w u k s r h = taken_more w u (r h)

    vanish_end : (it : Item) (its : List Item) (t : List ℕ) → (LastIs c its → EndTaken m.fold c t) → LastIs c (it ∷ literal (char "/") ∷ its) → EndTaken m.fold c t
    vanish_end it [] t r h = let z : (char "/") ≡ c = cc in absurd (plain.1 (sym z))
    vanish_end it (jt ∷ its) t r h = r h

    shares_end : {its : List Item} {t : List ℕ} → Shares m its t → LastIs c its → EndTaken m.fold c t
    shares_end none_left h = absurd h
    shares_end (shared {it} {its} {t} w u e k s) h = rw e (item_end it its w u k s (shares_end s) h)
    shares_end (vanished {its} {t} e s) h = vanish_end (run crossing_slash) its t (shares_end s) h

    pub end_taken : (p t : List ℕ) → EndsIn c p → matches_test m p t ≡ true → EndTaken m.fold c t
    unfolding Matches
    end_taken p t h e = let w = (test_decides m p t).0 e in shares_end w.2 (subst (LastOf c) w.1 (last_literal p 0 true (go p h) h))
      where
        go : (p : List ℕ) → EndsIn c p → 0 < length p
        go [] h = absurd h
        go (x ∷ p) h = omega arith

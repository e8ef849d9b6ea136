-- The quick tests of last and first bytes exclude only what does not match.
use Prim.Native.Nat.{ℕ, zero, suc, ◌-◌}
use native.Mathlib.Omega.{arith}
use mathlib.Core.Path.{◌≡◌, refl, sym, ap, subst, ◌∙◌}
use mathlib.Core.Bool.{Bool, true, false, cond, not, ◌&&◌, false≢true}
use mathlib.Core.List.{List, [], ◌∷◌}
use lib.Dec.{eqb}
use lib.ListN.{length, get_or, take}
use borrow.Author.Tests.{ne_eqb, not-true}
use Rattle.std.proofs.lemmas.Bool.{false_from_ne_true}
use Rattle.bytestrings.specs.Text.{char}
use Rattle.bytestrings.specs.Letters.{folded}
use Rattle.patterns.proofs.LastByteLaws.{Plain, EndsIn, EndTaken, end_taken}
use Rattle.patterns.proofs.FirstByteLaws.{FirstTaken, first_taken}
use Rattle.bytestrings.proofs.BoolLaws.{not_both}
use Rattle.patterns.specs.Items.{is_literal}
use Rattle.patterns.specs.declared.Mode.{Mode}
use Rattle.patterns.specs.MatchTest.{matches_test}
use Rattle.bytestrings.specs.Bytes.{has, is_empty}
use Rattle.entries.specs.Entries.{bare_matches, Subject}
use Rattle.entries.specs.inner.Prefilter.{end_accepted, Excludes, ExcludesText}

-- The text's last byte.

pub taken_nil : (fold : Bool) (c : ℕ) (t : List ℕ) → length t ≡ 0 → false ≡ end_accepted fold c t
unfolding end_accepted
taken_nil fold c [] h = refl
taken_nil fold c (x ∷ t) h = absurd (omega arith)

pub taken_some : (fold : Bool) (c : ℕ) (t : List ℕ) (r : Bool) → (length t ≡ 0 → ⊥) → r ≡ folded fold (λ y. eqb y c) (get_or t (length t - 1) 0) → r ≡ end_accepted fold c t
unfolding end_accepted
taken_some fold c [] r h e = absurd (h refl)
taken_some fold c (x ∷ t) r h e = e

last_taken : (fold : Bool) (c : ℕ) (t : List ℕ) (n : ℕ) → length t ≡ suc n → EndTaken fold c t → folded fold (λ y. eqb y c) (get_or t n 0) ≡ true
last_taken fold c [] n l h = absurd h
last_taken fold c (x ∷ []) zero l h = h
last_taken fold c (x ∷ []) (suc n) l h = absurd (omega arith)
last_taken fold c (x ∷ y ∷ t) zero l h = absurd (omega arith)
last_taken fold c (x ∷ y ∷ t) (suc n) l h = last_taken fold c (y ∷ t) n (omega arith) h

taken_end : (fold : Bool) (c : ℕ) (t : List ℕ) → EndTaken fold c t → end_accepted fold c t ≡ true
unfolding end_accepted
taken_end fold c [] h = absurd h
taken_end fold c (x ∷ t) h = last_taken fold c (x ∷ t) (length (x ∷ t) - 1) (omega arith) h

-- The pattern's end.

ends_at : (c : ℕ) (p : List ℕ) (n : ℕ) → length p ≡ suc n → get_or p n 0 ≡ c → EndsIn c p
ends_at c [] n l e = absurd (omega arith)
ends_at c (x ∷ []) zero l e = e
ends_at c (x ∷ []) (suc n) l e = absurd (omega arith)
ends_at c (x ∷ y ∷ p) zero l e = absurd (omega arith)
ends_at c (x ∷ y ∷ p) (suc n) l e = ends_at c (y ∷ p) n (omega arith) e

-- What it excludes.

module _ (subject : Subject) where
  pub excludes_none : (p : List ℕ) → Excludes subject p false
  unfolding Excludes
  excludes_none p e = absurd (false≢true e)

  pub bare_excluded : (p : List ℕ) (r : Bool) → Excludes subject p r → r ≡ true → false ≡ bare_matches subject p
  unfolding Excludes
  bare_excluded p r h e = sym (h e)

  module _ (c : ℕ) (plain : Plain c) where
    no_match : (path : Bool) (p t : List ℕ) → EndsIn c p → end_accepted subject.fold c t ≡ false → matches_test (record { path = path; fold = subject.fold }) p t ≡ false
    no_match path p t h e =
        false_from_ne_true _ (λ w. not_both (taken_end subject.fold c t (end_taken c plain (record { path = path; fold = subject.fold }) p t h w)) e)

    module _ (r : end_accepted subject.fold c subject.rest ≡ false) (n : end_accepted subject.fold c subject.component ≡ false) where
      no_text : (path : Bool) (p : List ℕ) → EndsIn c p → matches_test (record { path = path; fold = subject.fold }) p (cond path subject.rest subject.component) ≡ false
      no_text true p h = no_match true p subject.rest h r
      no_text false p h = no_match false p subject.component h n

      excluded : (p : List ℕ) → EndsIn c p → bare_matches subject p ≡ false
      unfolding bare_matches
      excluded [] h = absurd h
      excluded (x ∷ []) h = go (eqb x (char "/")) (has (char "/") (x ∷ []))
        where
          go : (b path : Bool)
              → not (is_empty (cond b [] (x ∷ []))) && matches_test (record { path = path; fold = subject.fold }) (cond b [] (x ∷ [])) (cond path subject.rest subject.component) ≡ false
          go true path = refl
          go false path = no_text path (x ∷ []) h
      excluded (x ∷ y ∷ p) h = go (eqb x (char "/")) (has (char "/") (x ∷ y ∷ p))
        where
          go : (b path : Bool)
              → not (is_empty (cond b (y ∷ p) (x ∷ y ∷ p))) && matches_test (record { path = path; fold = subject.fold }) (cond b (y ∷ p) (x ∷ y ∷ p)) (cond path subject.rest subject.component)
              ≡ false
          go true path = no_text path (y ∷ p) h
          go false path = no_text path (x ∷ y ∷ p) h

  pub excludes_last : (p : List ℕ) (c : ℕ) (r : Bool) → (length p ≡ 0 → ⊥) → get_or p (length p - 1) 0 ≡ c → (c ≡ char "*" → ⊥) → (c ≡ char "/" → ⊥) → (c ≡ char "?" → ⊥)
      → (c ≡ char "]" → ⊥) → end_accepted subject.fold c subject.rest ≡ false → r ≡ not (end_accepted subject.fold c subject.component) → Excludes subject p r
  unfolding Excludes
  excludes_last p c r l e star slash any close rest component w =
      excluded c (star, slash, any, close) rest (not-true (end_accepted subject.fold c subject.component) (sym component ∙ w)) p (ends_at c p (length p - 1) (omega (arith, l)) e)

-- The first bytes.

is_literal_lem : (c : ℕ) → (c ≡ char "*" → ⊥) → (c ≡ char "?" → ⊥) → (c ≡ char "[" → ⊥) → not (eqb c (char "\\")) ≡ true → is_literal c ≡ true
unfolding is_literal
is_literal_lem c a b d e = rw (ne_eqb c (char "*") a, ne_eqb c (char "?") b, ne_eqb c (char "[") d) e

begins : (fold : Bool) (c : ℕ) (t : List ℕ) → FirstTaken fold c t → end_accepted fold c (take 1 t) ≡ true
unfolding end_accepted
begins fold c [] h = absurd h
begins fold c (x ∷ t) h = h

begins_letter : (fold : Bool) (c : ℕ) (t : List ℕ) → FirstTaken fold c t → folded fold (λ y. eqb y c) (get_or t 0 0) ≡ true
begins_letter fold c [] h = absurd h
begins_letter fold c (x ∷ t) h = h

module _ (fold : Bool) (t : List ℕ) where
  pub differs_none : (p : List ℕ) → ExcludesText fold p t false
  unfolding ExcludesText
  differs_none p e = absurd (false≢true e)

  pub differs_first : (p : List ℕ) (c : ℕ) (r : Bool) → (length p ≡ 0 → ⊥) → get_or p 0 0 ≡ c → end_accepted fold c (take 1 t) ≡ false → (c ≡ char "*" → ⊥) → (c ≡ char "?" → ⊥) → (c ≡ char "[" → ⊥)
      → r ≡ not (eqb c (char "\\")) → ExcludesText fold p t r
  unfolding ExcludesText
  differs_first [] c r l e n a b d q h path = absurd (l refl)
  differs_first (x ∷ p) c r l e n a b d q h path =
      let z : is_literal x ≡ true = is_literal_lem x (λ i. a (sym e ∙ i)) (λ i. b (sym e ∙ i)) (λ i. d (sym e ∙ i)) (ap (λ (k : ℕ). not (eqb k (char "\\"))) e ∙ sym q ∙ h) in
      false_from_ne_true _ (λ w. not_both (begins fold c t (subst (λ (k : ℕ). FirstTaken fold k t) e (first_taken (record { path = path; fold = fold }) x p t z w))) n)

  pub differs_literal : (p : List ℕ) (a r : Bool) → (length p ≡ 0 → ⊥) → a ≡ folded fold (λ y. eqb y (get_or p 0 0)) (get_or t 0 0)
      → a ≡ false → r ≡ is_literal (get_or p 0 0) → ExcludesText fold p t r
  unfolding ExcludesText
  differs_literal [] a r l e n q h path = absurd (l refl)
  differs_literal (x ∷ p) a r l e n q h path =
      false_from_ne_true _ (λ w. not_both (begins_letter fold x t (first_taken (record { path = path; fold = fold }) x p t (sym q ∙ h) w)) (sym e ∙ n))

-- and a pattern that is asked about anyhow
pub text_differs : (m : Mode) (p t : List ℕ) (r : Bool) → ExcludesText m.fold p t r → r ≡ true → false ≡ matches_test m p t
unfolding ExcludesText
text_differs m p t r h e = sym (h e m.path)

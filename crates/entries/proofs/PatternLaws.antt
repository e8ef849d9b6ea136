-- A line's pattern, by the tests of its first and last byte.
use Prim.Native.Nat.{ℕ, ◌-◌, ◌≤◌}
use native.Mathlib.Omega.{arith}
use mathlib.Core.Path.{◌≡◌, refl, sym, ◌∙◌}
use mathlib.Core.Bool.{Bool, true, false, cond}
use mathlib.Core.List.{List, [], ◌∷◌}
use lib.ListN.{length, take, get_or}
use borrow.Author.Tests.{eq-eqb, ne_eqb}
use Rattle.bytestrings.specs.Text.{char}
use Rattle.bytestrings.proofs.SliceLaws.{from, from-drop}
use Rattle.bytestrings.proofs.OrderLaws.{one_after}
use Rattle.patterns.specs.MatchTest.{matches_test}
use Rattle.bytestrings.specs.Bytes.{last_is, has, is_empty}
use Rattle.entries.specs.Entries.{without_first_slash, bare_matches, pattern_matches, Subject}
use Rattle.bytestrings.proofs.ByteLaws.{ends_last, without_last_lem}

-- the first `/`
pub slash_first : (p : List ℕ) → 1 ≤ length p → get_or p 0 0 ≡ char "/" → from 1 p ≡ without_first_slash p
slash_first [] n f = absurd (omega arith)
slash_first (x ∷ p) n f = from-drop 1 (x ∷ p) ∙ rw (eq-eqb x (char "/") f)

pub slash_not_first : (p : List ℕ) → (1 ≤ length p → get_or p 0 0 ≡ char "/" → ⊥) → p ≡ without_first_slash p
slash_not_first [] f = refl
slash_not_first (x ∷ p) f = rw (ne_eqb x (char "/") (f (omega arith)))

module _ (subject : Subject) where
  -- by its parts: what is left without a first `/`, and the text that it is matched against
  module _ (p bare text : List ℕ) (path : Bool) (b : bare ≡ without_first_slash p) where
    pub bare_empty : is_empty bare ≡ true → false ≡ bare_matches subject p
    unfolding bare_matches
    bare_empty e = rw (sym b, e)

    pub bare_filled : (r : Bool) → path ≡ has (char "/") p → text ≡ cond path subject.rest subject.component → is_empty bare ≡ false
        → r ≡ matches_test (record { path = path; fold = subject.fold }) bare text → r ≡ bare_matches subject p
    unfolding bare_matches
    bare_filled r h t e m = rw (sym b, e, sym h, sym t) m

  -- no last `/`
  pub texts_plain : (p : List ℕ) → (1 ≤ length p → get_or p (length p - 1) 0 ≡ char "/" → ⊥) → bare_matches subject p ≡ pattern_matches subject p
  unfolding pattern_matches
  texts_plain [] f = refl
  texts_plain (x ∷ p) f = rw (ends_last (char "/") (x ∷ p) (length (x ∷ p) - 1) (omega arith) ∙ ne_eqb (get_or (x ∷ p) (length (x ∷ p) - 1) 0) (char "/") (f (omega arith)))

  -- a last `/`
  ends_slash_lem : (p : List ℕ) → (length p ≡ 0 → ⊥) → get_or p (length p - 1) 0 ≡ char "/" → last_is (char "/") p ≡ true
  ends_slash_lem p n f = ends_last (char "/") p (length p - 1) (one_after (length p) n) ∙ eq-eqb (get_or p (length p - 1) 0) (char "/") f

  pub texts_file : (p : List ℕ) → (length p ≡ 0 → ⊥) → get_or p (length p - 1) 0 ≡ char "/" → subject.directory ≡ false → pattern_matches subject p ≡ false
  unfolding pattern_matches
  texts_file p n f d = rw (ends_slash_lem p n f, d)

  pub texts_directory : (p : List ℕ) (r : Bool) → (length p ≡ 0 → ⊥) → get_or p (length p - 1) 0 ≡ char "/" → subject.directory ≡ true → r ≡ bare_matches subject (take (length p - 1) p)
      → r ≡ pattern_matches subject p
  unfolding pattern_matches bare_matches
  texts_directory p r n f d e = rw (ends_slash_lem p n f, d, without_last_lem p (length p - 1) (one_after (length p) n)) e

-- The test of specs/MatchTest.antt is true exactly where the pattern matches as specs/Sharing.antt has it.
use Prim.Native.Nat.{ℕ}
use mathlib.Core.Path.{◌≡◌, refl, sym, ap, subst, ◌∙◌}
use mathlib.Core.Logic.{⊎_elim, ◌↔◌}
use mathlib.Core.Bool.{Bool, true, ◌&&◌, ◌||◌, false≢true, or-true}
use mathlib.Core.List.{List, [], ◌∷◌, ◌++◌}
use Rattle.std.proofs.lemmas.Bool.{or_cases, and_parts}
use Rattle.std.specs.Prelude.{Option, None, Some}
use lib.Dec.{eqb}
use borrow.Author.Tests.{eqb-true}
use Rattle.bytestrings.specs.Text.{char}
use Rattle.patterns.specs.Patterns.{within, crossing, crossing_slash, Item, literal, any_byte, one_of, run, items}
use Rattle.patterns.specs.Sharing.{accepts, Each, TakesOne, Takes, Shares, none_left, shared, vanished, Matches}
use Rattle.patterns.specs.MatchTest.{one_then, run_then, passes, item_then, vanish, shares_test, shares_of, tail_matches, matches_test, MatchDecided}
use Rattle.bytestrings.specs.Bytes.{is_empty}
use Rattle.patterns.specs.declared.Mode.{Mode}

or_both : (a b c : Bool) → b ≡ true → c ≡ true → (a || b && c) ≡ true
or_both a b c p q = rw (p, q) (or-true a)

-- t is a part that P holds of, and then a part that Q holds of
abbrev Split : (List ℕ → Type 0) → (List ℕ → Type 0) → List ℕ → Type 0
Split P Q t = (w : List ℕ) × (u : List ℕ) × (t ≡ w ++ u) × P w × Q u

module _ (m : Mode) where
  one_sound : (it : Item) (f : List ℕ → Bool) (t : List ℕ) → one_then (accepts m it) f t ≡ true → Split (TakesOne m it) (λ u. f u ≡ true) t
  one_sound it f [] e = absurd (false≢true e)
  one_sound it f (x ∷ t) e = let s = and_parts (accepts m it x) (f t) e in (x ∷ [], t, refl, (x, refl, s.0), s.1)

  one_join : (it : Item) (f : List ℕ → Bool) (w u : List ℕ) → TakesOne m it w → f u ≡ true → one_then (accepts m it) f (w ++ u) ≡ true
  one_join it f w u h q = rw (h.1, h.2) q

run_sound : (a : ℕ → Bool) (f : List ℕ → Bool) (t : List ℕ) → run_then a f t ≡ true → Split (Each a) (λ u. f u ≡ true) t
run_sound a f [] e = ([], [], refl, tt, e)
run_sound a f (x ∷ t) e =
    ⊎_elim (λ h. ([], x ∷ t, refl, tt, h))
    (λ h. let s = and_parts (a x) (run_then a f t) h in let r = run_sound a f t s.1 in
    (x ∷ r.0, r.1, ap {B = List ℕ} (λ l. x ∷ l) r.2, (s.0, r.3), r.4))
    (or_cases (f (x ∷ t)) (a x && run_then a f t) e)

pub run_here : (a : ℕ → Bool) (f : List ℕ → Bool) (t : List ℕ) → f t ≡ true → run_then a f t ≡ true
run_here a f [] q = q
run_here a f (x ∷ t) q = rw q refl

run_join : (a : ℕ → Bool) (f : List ℕ → Bool) (w u : List ℕ) → Each a w → f u ≡ true → run_then a f (w ++ u) ≡ true
run_join a f [] u h q = run_here a f u q
run_join a f (x ∷ w) u h q = rw (h.0, run_join a f w u h.1 q) (or-true (f (x ∷ w ++ u)))

each_any : (w : List ℕ) → Each (λ x. true) w
each_any [] = tt
each_any (x ∷ w) = (refl, each_any w)

module _ (m : Mode) where
  item_sound : (it : Item) (f : List ℕ → Bool) (t : List ℕ) → item_then m it f t ≡ true → Split (Takes m it) (λ u. f u ≡ true) t
  item_sound (literal c) f t e = one_sound m (literal c) f t e
  item_sound any_byte f t e = one_sound m any_byte f t e
  item_sound (one_of c) f t e = one_sound m (one_of c) f t e
  item_sound (run within) f t e = run_sound (passes m within) f t e
  item_sound (run crossing) f t e = let s = run_sound (passes m crossing) f t e in (s.0, s.1, s.2, tt, s.4)
  item_sound (run crossing_slash) f t e = let s = run_sound (passes m crossing_slash) f t e in (s.0, s.1, s.2, tt, s.4)

  item_join : (it : Item) (f : List ℕ → Bool) (w u : List ℕ) → Takes m it w → f u ≡ true → item_then m it f (w ++ u) ≡ true
  item_join (literal c) f w u h q = one_join m (literal c) f w u h q
  item_join any_byte f w u h q = one_join m any_byte f w u h q
  item_join (one_of c) f w u h q = one_join m (one_of c) f w u h q
  item_join (run within) f w u h q = run_join (passes m within) f w u h q
  item_join (run crossing) f w u h q = run_join (passes m crossing) f w u (each_any w) q
  item_join (run crossing_slash) f w u h q = run_join (passes m crossing_slash) f w u (each_any w) q

  vanish_sound : (it jt : Item) (its : List Item) (t : List ℕ) → vanish m it jt ≡ true → Shares m its t → Shares m (it ∷ jt ∷ its) t
  vanish_sound (run crossing_slash) (literal c) its t e s =
      let b = and_parts m.path (eqb c (char "/")) e in
      subst (λ (k : ℕ). Shares m (run crossing_slash ∷ literal k ∷ its) t) (sym (eqb-true c (char "/") b.1)) (vanished b.0 s)
  vanish_sound (run crossing_slash) any_byte its t e s = absurd (false≢true e)
  vanish_sound (run crossing_slash) (one_of c) its t e s = absurd (false≢true e)
  vanish_sound (run crossing_slash) (run r) its t e s = absurd (false≢true e)
  vanish_sound (run within) jt its t e s = absurd (false≢true e)
  vanish_sound (run crossing) jt its t e s = absurd (false≢true e)
  vanish_sound (literal c) jt its t e s = absurd (false≢true e)
  vanish_sound any_byte jt its t e s = absurd (false≢true e)
  vanish_sound (one_of c) jt its t e s = absurd (false≢true e)

  empty_sound : (t : List ℕ) → is_empty t ≡ true → Shares m [] t
  empty_sound [] e = none_left
  empty_sound (x ∷ t) e = absurd (false≢true e)

  sound : (its : List Item) (t : List ℕ) → shares_test m its t ≡ true → Shares m its t
  sound [] t e = empty_sound t e
  sound (it ∷ []) t e = let s = item_sound it is_empty t e in shared s.0 s.1 s.2 s.3 (empty_sound s.1 s.4)
  sound (it ∷ jt ∷ its) t e =
      ⊎_elim (λ h. let s = item_sound it (shares_test m (jt ∷ its)) t h in shared s.0 s.1 s.2 s.3 (sound (jt ∷ its) s.1 s.4))
      (λ h. let s = and_parts (vanish m it jt) (shares_test m its t) h in vanish_sound it jt its t s.0 (sound its t s.1))
      (or_cases (item_then m it (shares_test m (jt ∷ its)) t) (vanish m it jt && shares_test m its t) e)

  item_more : (it : Item) (its : List Item) (w u : List ℕ) → Takes m it w → shares_test m its u ≡ true → shares_test m (it ∷ its) (w ++ u) ≡ true
  item_more it [] w u h q = item_join it is_empty w u h q
  item_more it (jt ∷ its) w u h q = rw (item_join it (shares_test m (jt ∷ its)) w u h q) refl

  complete : {its : List Item} {t : List ℕ} → Shares m its t → shares_test m its t ≡ true
  complete none_left = refl
  complete (shared {it} {its} {t} w u e h s) = subst (λ (l : List ℕ). shares_test m (it ∷ its) l ≡ true) (sym e) (item_more it its w u h (complete s))
  complete (vanished {its} {t} p s) =
      or_both (item_then m (run crossing_slash) (shares_test m (literal (char "/") ∷ its)) t) (m.path && true) (shares_test m its t) (rw p refl) (complete s)

  of_sound : (o : Option (List Item)) (t : List ℕ) → shares_of m o t ≡ true → (its : List Item) × (o ≡ Some its) × Shares m its t
  of_sound None t e = absurd (false≢true e)
  of_sound (Some its) t e = (its, refl, sound its t e)

  -- the test decides `Matches`
  pub test_decides : (p t : List ℕ) → (matches_test m p t ≡ true) ↔ Matches m p t
  unfolding matches_test tail_matches Matches
  test_decides p t = (of_sound (items p) t, λ h. rw h.1 (complete h.2))

-- an answer that is the test's
pub decides : (m : Mode) (p t : List ℕ) (b : Bool) → b ≡ matches_test m p t → MatchDecided m p t b
decides m p t b e = let d = test_decides m p t in record { means = (λ h. d.0 (sym e ∙ h), λ w. e ∙ d.1 w); test = e }

-- The loop over items of one byte: what an outcome means after an item it means before it.
use mathlib.Core.Path.{◌≡◌, refl, sym, ap, ap₂, subst, ◌∙◌}
use mathlib.Core.Logic.{inl, inr, ⊎_elim}
use mathlib.Core.Bool.{Bool, true, false, cond, not, ◌&&◌, false≢true}
use mathlib.Core.List.{List, [], ◌∷◌}
use Rattle.std.proofs.lemmas.Bool.{and_parts, cases_lt}
use Rattle.std.specs.Prelude.{None, Some}
use Prim.Native.Nat.{ℕ, zero, suc, ◌+◌, ◌-◌, ◌<◌, ◌≤◌}
use native.Mathlib.Omega.{arith}
use lib.Dec.{eqb}
use lib.ListN.{length, drop, get_or, length-drop, drop_of_length-le}
use lib.Seq.{drop-cons, drop-drop, get_or-drop}
use borrow.Author.Tests.{eqb-true, not-true}
use Rattle.bytestrings.specs.Text.{char}
use Rattle.bytestrings.specs.Letters.{folded}
use Rattle.bytestrings.proofs.LetterLaws.{folded_slash, folded_same}
use Rattle.bytestrings.proofs.SliceLaws.{from, from-drop}
use Rattle.patterns.proofs.ReadLaws.{single, ends_slash, Sized, item_sized}
use Rattle.patterns.proofs.TailLaws.{One, item_one, tail_one, tail_broken, tail_nil}
use Rattle.patterns.specs.Patterns.{Item, literal, any_byte, one_of, run, First, broken, item, read_item}
use Rattle.patterns.specs.Sharing.{inside, accepts}
use Rattle.patterns.specs.MatchTest.{one_then, tail_matches}
use Rattle.patterns.specs.Items.{taken, taken_by}
use Rattle.patterns.specs.inner.Tails.{after_at}
use Rattle.engine.specs.inner.Outcomes.{May, Never, run_before, Means, Stops}
use Rattle.patterns.specs.declared.Mode.{Mode}
use Rattle.engine.specs.declared.matcher.Outcome.{Outcome}
use Rattle.engine.specs.declared.matcher.Outcome.TheVariants.{Matched, NoMatch, AbortToStarStar, AbortAll}
use Rattle.engine.specs.declared.segment.Stop.TheVariants.{Whole, Mismatch, TooShort, Run}

-- an item of one byte that accepts a byte inside accepts none outside
literal-inside : (path fold : Bool) (c x y : ℕ) → not (path && eqb x (char "/")) ≡ true → folded fold (λ z. eqb z c) x ≡ true → folded fold (λ z. eqb z c) y ≡ true
    → not (path && eqb y (char "/")) ≡ true
literal-inside true fold c x y i a b = rw (folded_same fold c x y a (not-true (eqb x (char "/")) i) b) refl
literal-inside false fold c x y i a b = refl

accepts-inside : (m : Mode) (it : Item) (x y : ℕ) → inside m x ≡ true → accepts m it x ≡ true → accepts m it y ≡ true → inside m y ≡ true
unfolding accepts inside
accepts-inside m (literal c) x y i a b = literal-inside m.path m.fold c x y i a b
accepts-inside m any_byte x y i a b = b
accepts-inside m (one_of k) x y i a b = (and_parts (not (m.path && eqb y (char "/"))) _ b).0
accepts-inside m (run r) x y i a b = absurd (false≢true a)

-- an item that ends in `/` accepts nothing else
accepts_slash : (m : Mode) (it : Item) (x : ℕ) → ends_slash it ≡ true → accepts m it x ≡ true → x ≡ char "/"
unfolding accepts
accepts_slash m (literal c) x e a =
    eqb-true x (char "/") (sym (folded_slash m.fold x) ∙ subst (λ (k : ℕ). folded m.fold (λ y. eqb y k) x ≡ true) (eqb-true c (char "/") e) a)
accepts_slash m any_byte x e a = absurd (false≢true e)
accepts_slash m (one_of k) x e a = absurd (false≢true e)
accepts_slash m (run r) x e a = absurd (false≢true e)

-- what could be reached before the item x takes can be reached after it
shifted : (m : Mode) (it : Item) (after : Bool) (x : ℕ) (u : List ℕ) (r : Outcome) (k : ℕ) → accepts m it x ≡ true → accepts m it (get_or (x ∷ u) k 0) ≡ true
    → May m (run_before after r) (x ∷ u) k → May m (run_before (ends_slash it) r) u k
shifted m it after x u Matched k a b w = w
shifted m it after x u NoMatch k a b w = w
shifted m it after x u AbortToStarStar k a b w = λ j l.
    ⊎_elim (λ h. w (suc j) h) (λ h. let e : suc j ≡ k = omega arith in subst (λ (n : ℕ). inside m (get_or (x ∷ u) n 0) ≡ true) (sym e)
    (accepts-inside m it x (get_or (x ∷ u) k 0) (w 0 (omega arith)) a b))
    (cases_lt (suc j) k)
shifted m it after x u AbortAll k a b w = go (ends_slash it) refl k b
  where
    go : (s : Bool) → ends_slash it ≡ s → (k : ℕ) → accepts m it (get_or (x ∷ u) k 0) ≡ true → May m (run_before s AbortAll) u k
    go true e zero b = inl refl
    go true e (suc n) b = let q : n ≡ suc n - 1 = omega arith in inr (ap (λ (i : ℕ). get_or u i 0) (sym q) ∙ accepts_slash m it (get_or u n 0) e b)
    go false e k b = tt

one_fails : (a : ℕ → Bool) (g : List ℕ → Bool) (x : ℕ) (u : List ℕ) (k : ℕ) → k ≤ length (x ∷ u) → (k ≤ length u → a (get_or (x ∷ u) k 0) ≡ true → g (drop k u) ≡ false)
    → one_then a g (drop k (x ∷ u)) ≡ false
one_fails a g x u zero l h = go (a x) refl
  where
    go : (b : Bool) → a x ≡ b → (b && g u) ≡ false
    go true e = h (omega arith) e
    go false e = refl
one_fails a g x [] (suc k) l h = let e : k ≡ 0 = omega arith in rw e refl
one_fails a g x (y ∷ u) (suc k) l h = one_fails a g y u k (omega arith) (λ n e. h (omega arith) e)

module _ (m : Mode) (after : Bool) (y : ℕ) (q : List ℕ) (it : Item) (n : ℕ) (e : read_item after y q ≡ item it n) (s : single it ≡ true) (x : ℕ) (u : List ℕ) (a : accepts m it x ≡ true) where
  never_more : (r : Outcome) → Never m (run_before (after_at after (y ∷ q) n) r) (tail_matches m (after_at after (y ∷ q) n) (drop n (y ∷ q))) u
      → Never m (run_before after r) (tail_matches m after (y ∷ q)) (x ∷ u)
  unfolding Never
  never_more r h k l w = tail_one m after y q it n (drop k (x ∷ u)) e s
      ∙ one_fails (accepts m it) (tail_matches m (after_at after (y ∷ q) n) (drop n (y ∷ q))) x u k l
      (λ d b. h k d (subst (λ (f : Bool). May m (run_before f r) u k) (sym (subst (Sized after (y ∷ q)) e (item_sized after y q)).2) (shifted m it after x u r k a b w)))

  -- the item takes x, and what holds of the rest holds of the whole
  means_more : (r : Outcome) → Means m (after_at after (y ∷ q) n) (tail_matches m (after_at after (y ∷ q) n) (drop n (y ∷ q))) u r → Means m after (tail_matches m after (y ∷ q)) (x ∷ u) r
  unfolding Means
  means_more Matched h = tail_one m after y q it n (x ∷ u) e s ∙ rw a h
  means_more NoMatch h = never_more NoMatch h
  means_more AbortToStarStar h = never_more AbortToStarStar h
  means_more AbortAll h = never_more AbortAll h

-- The code's tests.

-- the first item of y ∷ q, where it is no run and accepts x
taken_item : (m : Mode) (after : Bool) (y : ℕ) (q : List ℕ) (x n : ℕ) → (y ≡ char "*" → ⊥) → Some n ≡ taken m (y ∷ q) x
    → (it : Item) × (read_item after y q ≡ item it n) × (single it ≡ true) × (accepts m it x ≡ true)
unfolding taken taken_by
taken_item m after y q x n h e = let o = item_one after y q h in go (read_item after y q) refl (e ∙ ap (taken_by m x) (sym o.0)) o.1
  where
    pick : (it : Item) (k : ℕ) (b : Bool) → accepts m it x ≡ b → Some n ≡ cond b (Some k) None → read_item after y q ≡ item it k → single it ≡ true
        → (it : Item) × (read_item after y q ≡ item it n) × (single it ≡ true) × (accepts m it x ≡ true)
    pick it k true a w g s = let e : k ≡ n = cc in (it, g ∙ ap (item it) e, s, a)
    pick it k false a w g s = absurd cc

    go : (f : First) → read_item after y q ≡ f → Some n ≡ taken_by m x f → One f → (it : Item) × (read_item after y q ≡ item it n) × (single it ≡ true) × (accepts m it x ≡ true)
    go broken g w s = absurd cc
    go (item it k) g w s = pick it k (accepts m it x) refl w g s

-- where an item of one byte does not accept x, or is broken, the pattern does not match
taken_none : (m : Mode) (after : Bool) (y : ℕ) (q : List ℕ) (x : ℕ) (u : List ℕ) → (y ≡ char "*" → ⊥) → None ≡ taken m (y ∷ q) x → tail_matches m after (y ∷ q) (x ∷ u) ≡ false
unfolding taken taken_by
taken_none m after y q x u h e = let o = item_one after y q h in go (read_item after y q) refl (e ∙ ap (taken_by m x) (sym o.0)) o.1
  where
    pick : (it : Item) (k : ℕ) (b : Bool) → accepts m it x ≡ b → None ≡ cond b (Some k) None → read_item after y q ≡ item it k
        → (b && tail_matches m (after_at after (y ∷ q) k) (drop k (y ∷ q)) u) ≡ false
    pick it k true a w g = absurd cc
    pick it k false a w g = refl

    go : (f : First) → read_item after y q ≡ f → None ≡ taken_by m x f → One f → tail_matches m after (y ∷ q) (x ∷ u) ≡ false
    go broken g w s = tail_broken m after y q (x ∷ u) g
    go (item it k) g w s = tail_one m after y q it k (x ∷ u) g s ∙ pick it k (accepts m it x) refl w g

no_text : (m : Mode) (after : Bool) (y : ℕ) (q : List ℕ) → (y ≡ char "*" → ⊥) → tail_matches m after (y ∷ q) [] ≡ false
no_text m after y q h = go (read_item after y q) refl (item_one after y q h).1
  where
    go : (f : First) → read_item after y q ≡ f → One f → tail_matches m after (y ∷ q) [] ≡ false
    go broken g s = tail_broken m after y q [] g
    go (item it k) g s = tail_one m after y q it k [] g s

pub after_at-drop : (after : Bool) (p : List ℕ) (i n : ℕ) → 1 ≤ n → after_at (after_at after p i) (drop i p) n ≡ after_at after p (i + n)
unfolding after_at
after_at-drop after p i zero h = absurd (omega arith)
after_at-drop after p i (suc n) h = let e : suc (i + n) ≡ i + suc n = omega arith in ap (λ (b : ℕ). eqb b (char "/")) (get_or-drop i p n 0) ∙ ap (after_at after p) e

-- one turn, at the fronts of a pattern and a text
step : (m : Mode) (b : Bool) (p t : List ℕ) (n : ℕ) → 0 < length p → 0 < length t → (get_or p 0 0 ≡ char "*" → ⊥) → Some n ≡ taken m p (get_or t 0 0)
    → (1 ≤ n) × (n ≤ length p) × ((r : Outcome) → Means m (after_at b p n) (tail_matches m (after_at b p n) (drop n p)) (drop 1 t) r → Means m b (tail_matches m b p) t r)
step m b [] t n k l h e = absurd (omega arith)
step m b (y ∷ q) [] n k l h e = absurd (omega arith)
step m b (y ∷ q) (x ∷ u) n k l h e =
    let f = taken_item m b y q x n h e in
    let g = subst (Sized b (y ∷ q)) f.1 (item_sized b y q) in
    (g.0, g.1, means_more m b y q f.0 n f.1 f.2 x u f.3)

pub mismatch : (m : Mode) (b : Bool) (p t : List ℕ) → 0 < length p → 0 < length t → (get_or p 0 0 ≡ char "*" → ⊥) → None ≡ taken m p (get_or t 0 0) → tail_matches m b p t ≡ false
mismatch m b [] t k l h e = absurd (omega arith)
mismatch m b (y ∷ q) [] k l h e = absurd (omega arith)
mismatch m b (y ∷ q) (x ∷ u) k l h e = taken_none m b y q x u h e

short : (m : Mode) (b : Bool) (p : List ℕ) → 0 < length p → (get_or p 0 0 ≡ char "*" → ⊥) → tail_matches m b p [] ≡ false
short m b [] k h = absurd (omega arith)
short m b (y ∷ q) k h = no_text m b y q h

failed : (m : Mode) (b : Bool) (f : List ℕ → Bool) (t : List ℕ) → f t ≡ false → Means m b f t NoMatch
unfolding Means Never
failed m b f t e k l w = subst (λ (n : ℕ). f (drop n t) ≡ false) (sym w) e

failed_all : (m : Mode) (b : Bool) (f : List ℕ → Bool) → f [] ≡ false → Means m b f [] AbortAll
unfolding Means Never
failed_all m b f e k l w = let z : k ≡ 0 = omega arith in subst (λ (n : ℕ). f (drop n []) ≡ false) (sym z) e

pub first : (i : ℕ) (l : List ℕ) → get_or (drop i l) 0 0 ≡ get_or l i 0
first i l = let e : i + 0 ≡ i = omega arith in get_or-drop i l 0 0 ∙ ap (λ (n : ℕ). get_or l n 0) e

front : (i : ℕ) (l : List ℕ) → get_or (drop i l) 0 0 ≡ char "*" → get_or l i 0 ≡ char "*"
front i l e = sym (first i l) ∙ e

module _ (m : Mode) (p t : List ℕ) where
  -- i bytes of the pattern have taken j bytes of the text
  abbrev pub Along : ℕ → ℕ → Type 0
  Along i j =
      (i ≤ length p) × (j ≤ length t)
      × ((after : Bool) (r : Outcome) → Means m (after_at after p i) (tail_matches m (after_at after p i) (drop i p)) (drop j t) r → Means m after (tail_matches m after p) t r)

  pub along_begin : Along 0 0
  unfolding after_at
  along_begin = (omega arith, omega arith, λ after r h. h)

  at_front : (i j n : ℕ) → i < length p → j < length t → (get_or p i 0 ≡ char "*" → ⊥) → Some n ≡ taken m (from i p) (get_or t j 0) → (b : Bool)
      → (1 ≤ n) × (n ≤ length (drop i p)) × ((r : Outcome) → Means m (after_at b (drop i p) n) (tail_matches m (after_at b (drop i p) n) (drop n (drop i p))) (drop 1 (drop j t)) r
      → Means m b (tail_matches m b (drop i p)) (drop j t) r)
  at_front i j n k l h e b =
      step m b (drop i p) (drop j t) n (rw length-drop (omega arith)) (rw length-drop (omega arith)) (λ w. h (front i p w)) (e ∙ ap₂ (taken m) (from-drop i p) (sym (first j t)))

  pub along_fits : (i j n : ℕ) → Along i j → i < length p → j < length t → (get_or p i 0 ≡ char "*" → ⊥) → Some n ≡ taken m (from i p) (get_or t j 0) → (1 ≤ n) × (i + n ≤ length p)
  along_fits i j n a k l h e = let s = at_front i j n k l h e false in (s.0, omega (arith, rw length-drop at s.1))

  pub along_next : (i j n : ℕ) → Along i j → i < length p → j < length t → (get_or p i 0 ≡ char "*" → ⊥) → Some n ≡ taken m (from i p) (get_or t j 0) → Along (i + n) (j + 1)
  along_next i j n a k l h e =
      let s = along_fits i j n a k l h e in (
        s.1,
        omega arith,
        λ after r w. a.2 after r ((at_front i j n k l h e (after_at after p i)).2 r
            (subst (λ (f : Bool). Means m f (tail_matches m f (drop n (drop i p))) (drop 1 (drop j t)) r) (sym (after_at-drop after p i n s.0))
            (rw (drop-drop n i p, drop-drop 1 j t) w))),
      )

  pub along_run : (i j : ℕ) → Along i j → i < length p → get_or p i 0 ≡ char "*" → Stops m p t (Run i j)
  unfolding Stops
  along_run i j a k e = (k, a.1, e, a.2)

  pub along_short : (i j : ℕ) → Along i j → i < length p → (get_or p i 0 ≡ char "*" → ⊥) → length t ≤ j → Stops m p t TooShort
  unfolding Stops
  along_short i j a k h l after =
      a.2 after AbortAll (rw (drop_of_length-le t l) (failed_all m (after_at after p i) _ (short m (after_at after p i) (drop i p) (rw length-drop (omega arith)) (λ e. h (front i p e)))))

  pub along_mismatch : (i j : ℕ) → Along i j → i < length p → j < length t → (get_or p i 0 ≡ char "*" → ⊥) → None ≡ taken m (from i p) (get_or t j 0) → Stops m p t Mismatch
  unfolding Stops
  along_mismatch i j a k l h e after = a.2 after NoMatch (failed m (after_at after p i) _ (drop j t)
      (mismatch m (after_at after p i) (drop i p) (drop j t) (rw length-drop (omega arith)) (rw length-drop (omega arith))
      (λ w. h (front i p w)) (e ∙ ap₂ (taken m) (from-drop i p) (sym (first j t)))))

  pub along_whole : (i j : ℕ) → Along i j → length p ≤ i → j ≡ length t → Stops m p t Whole
  unfolding Stops Means
  along_whole i j a k l after = let d : length t ≤ j = omega arith in a.2 after Matched (rw (drop_of_length-le p k, tail_nil) (rw (drop_of_length-le t d) refl))

  pub along_long : (i j : ℕ) → Along i j → length p ≤ i → (j ≡ length t → ⊥) → Stops m p t Mismatch
  unfolding Stops
  along_long i j a k l after = a.2 after NoMatch (failed m (after_at after p i) _ (drop j t) (rw (drop_of_length-le p k, tail_nil) (rw (drop-cons t j 0 (omega (arith, a.1))) refl)))

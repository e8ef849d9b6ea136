-- For engines: what is left of a pattern, by its first item.
use mathlib.Core.Path.{◌≡◌, refl, sym, ap, ap₂, subst, ◌∙◌, fun_ext}
use mathlib.Core.Logic.{◌⊎◌, inl, inr}
use mathlib.Core.Bool.{Bool, true, false, ◌&&◌, ◌||◌, and-false, or-false, or_comm, false≢true}
use mathlib.Core.List.{List, [], ◌∷◌}
use Rattle.std.proofs.lemmas.Bool.{and_parts}
use Rattle.std.specs.Prelude.{Option, None, Some}
use Prim.Native.Nat.{ℕ, ◌<◌}
use native.Mathlib.Omega.{arith}
use lib.Dec.{eqb, leb}
use lib.ListN.{length, drop, get_or}
use borrow.Author.Tests.{eqb-true, ne_eqb}
use Rattle.bytestrings.specs.Text.{char}
use Rattle.classes.specs.Members.{Class, read_class}
use Rattle.bytestrings.proofs.LetterLaws.{folded_slash}
use Rattle.patterns.proofs.ReadLaws.{single, Sized, item_sized, by_cases, items_step}
use Rattle.patterns.specs.Patterns.{Reach, within, crossing, crossing_slash, Item, literal, any_byte, one_of, run, First, broken, item, stars, starts_slash}
use Rattle.patterns.specs.Patterns.{component_ends, crosses, reach_of, read_run, read_escaped, read_bracket, read_item, and_item, items_from}
use Rattle.patterns.specs.Sharing.{inside, accepts}
use Rattle.patterns.specs.MatchTest.{one_then, run_then, passes, item_then, vanish, shares_test, shares_of, tail_matches}
use Rattle.bytestrings.specs.Bytes.{is_empty}
use Rattle.patterns.specs.inner.Tails.{after_at, within_then, slash_then}
use Rattle.patterns.specs.declared.Mode.{Mode}

-- nothing matches where nothing follows
one_none : (a : ℕ → Bool) (t : List ℕ) → one_then a (λ u. false) t ≡ false
one_none a [] = refl
one_none a (x ∷ t) = and-false (a x)

run_none : (a : ℕ → Bool) (t : List ℕ) → run_then a (λ u. false) t ≡ false
run_none a [] = refl
run_none a (x ∷ t) = rw (run_none a t) (and-false (a x))

item_none : (m : Mode) (it : Item) (t : List ℕ) → item_then m it (λ u. false) t ≡ false
item_none m (literal c) t = one_none _ t
item_none m any_byte t = one_none _ t
item_none m (one_of c) t = one_none _ t
item_none m (run r) t = run_none _ t

-- the item vanishes before no item
abbrev Stays : Mode → Item → Type 0
Stays m it = (jt : Item) → vanish m it jt ≡ false

step_of : (m : Mode) (it : Item) (o : Option (List Item)) (t : List ℕ) → Stays m it → shares_of m (and_item it o) t ≡ item_then m it (shares_of m o) t
step_of m it None t h = sym (item_none m it t)
step_of m it (Some []) t h = refl
step_of m it (Some (jt ∷ its)) t h = rw (h jt) (or-false _)

tail_step : (m : Mode) (after : Bool) (x : ℕ) (p : List ℕ) (it : Item) (n : ℕ) (t : List ℕ) → read_item after x p ≡ item it n → Stays m it
    → tail_matches m after (x ∷ p) t ≡ item_then m it (tail_matches m (after_at after (x ∷ p) n) (drop n (x ∷ p))) t
unfolding tail_matches
tail_step m after x p it n t e h = ap (λ o. shares_of m o t) (items_step after x p it n e) ∙ step_of m it (items_from (drop n (x ∷ p)) 0 (after_at after (x ∷ p) n)) t h

-- Items of one byte.

single_stays : (m : Mode) (it : Item) → single it ≡ true → Stays m it
single_stays m (literal c) s jt = refl
single_stays m any_byte s jt = refl
single_stays m (one_of c) s jt = refl
single_stays m (run r) s jt = absurd (false≢true s)

single_then : (m : Mode) (it : Item) (f : List ℕ → Bool) (t : List ℕ) → single it ≡ true → item_then m it f t ≡ one_then (accepts m it) f t
single_then m (literal c) f t s = refl
single_then m any_byte f t s = refl
single_then m (one_of c) f t s = refl
single_then m (run r) f t s = absurd (false≢true s)

-- what an item is that does not begin with a star, whatever stands before it
abbrev pub One : First → Type 0
One broken = Unit {0}
One (item it n) = single it ≡ true

bracket_one : (o : Option Class) → One (read_bracket o)
unfolding read_bracket
bracket_one None = tt
bracket_one (Some c) = refl

escaped_one : (p : List ℕ) → One (read_escaped p)
escaped_one [] = tt
escaped_one (y ∷ p) = refl

pub item_one : (after : Bool) (x : ℕ) (p : List ℕ) → (x ≡ char "*" → ⊥) → (read_item after x p ≡ read_item false x p) × One (read_item after x p)
unfolding read_item
item_one after x p h = rw (ne_eqb x (char "*") h) (
  refl,
  by_cases One (eqb x (char "\\")) _ _ (λ e. escaped_one p)
      (λ e. by_cases One (eqb x (char "?")) _ _ (λ e. refl) (λ e. by_cases One (eqb x (char "[")) _ _ (λ e. bracket_one (read_class p)) (λ e. refl))),
)

pub tail_one : (m : Mode) (after : Bool) (x : ℕ) (p : List ℕ) (it : Item) (n : ℕ) (t : List ℕ) → read_item after x p ≡ item it n → single it ≡ true
    → tail_matches m after (x ∷ p) t ≡ one_then (accepts m it) (tail_matches m (after_at after (x ∷ p) n) (drop n (x ∷ p))) t
tail_one m after x p it n t e s = tail_step m after x p it n t e (single_stays m it s) ∙ single_then m it _ t s

pub tail_broken : (m : Mode) (after : Bool) (x : ℕ) (p : List ℕ) (t : List ℕ) → read_item after x p ≡ broken → tail_matches m after (x ∷ p) t ≡ false
unfolding tail_matches items_from
tail_broken m after x p t e = rw e refl

pub tail_nil : (m : Mode) (after : Bool) (t : List ℕ) → tail_matches m after [] t ≡ is_empty t
unfolding tail_matches items_from
tail_nil m after t = refl

-- Runs.

-- a run that crosses vanishes with its slash in path mode only
run_stays : (m : Mode) (r : Reach) → (m.path ≡ false) ⊎ ((r ≡ crossing_slash) → ⊥) → Stays m (run r)
run_stays m within h jt = refl
run_stays m crossing h jt = refl
run_stays m crossing_slash (inl h) (literal c) = rw h refl
run_stays m crossing_slash (inl h) any_byte = refl
run_stays m crossing_slash (inl h) (one_of c) = refl
run_stays m crossing_slash (inl h) (run r) = refl
run_stays m crossing_slash (inr h) jt = absurd (h refl)

pub run_same : (a b : ℕ → Bool) (f g : List ℕ → Bool) → ((x : ℕ) → a x ≡ b x) → ((t : List ℕ) → f t ≡ g t) → (t : List ℕ) → run_then a f t ≡ run_then b g t
run_same a b f g h k t = ap₂ (λ c d. run_then c d t) (fun_ext h) (fun_ext k)

read_star : (after : Bool) (x : ℕ) (q : List ℕ) → x ≡ char "*" → read_item after x q ≡ item (run (reach_of after (stars (x ∷ q)) (drop (stars (x ∷ q)) (x ∷ q)))) (stars (x ∷ q))
unfolding read_item read_run
read_star after x q e = subst (λ (k : ℕ). read_item after k q ≡ item (run (reach_of after (stars (k ∷ q)) (drop (stars (k ∷ q)) (k ∷ q)))) (stars (k ∷ q))) (sym e) refl

-- the run at the start of p, as it is read
run_step : (m : Mode) (after : Bool) (p : List ℕ) (r : Reach) (t : List ℕ) → 0 < length p → get_or p 0 0 ≡ char "*" → reach_of after (stars p) (drop (stars p) p) ≡ r → Stays m (run r)
    → tail_matches m after p t ≡ run_then (passes m r) (tail_matches m false (drop (stars p) p)) t
run_step m after [] r t l e q h = absurd (omega arith)
run_step m after (x ∷ p) r t l e q h =
    let k : read_item after x p ≡ item (run r) (stars (x ∷ p)) = read_star after x p e ∙ ap (λ (s : Reach). item (run s) (stars (x ∷ p))) q in
    let b = (subst (Sized after (x ∷ p)) k (item_sized after x p)).2 in
    tail_step m after x p (run r) (stars (x ∷ p)) t k h ∙ ap (λ (f : Bool). run_then (passes m r) (tail_matches m f (drop (stars (x ∷ p)) (x ∷ p))) t) b

plain_passes : (m : Mode) (r : Reach) (x : ℕ) → m.path ≡ false → passes m r x ≡ inside m x
unfolding inside
plain_passes m within x h = refl
plain_passes m crossing x h = rw h refl
plain_passes m crossing_slash x h = rw h refl

read_within : (after : Bool) (n : ℕ) (p : List ℕ) → crosses after n p ≡ false → reach_of after n p ≡ within
unfolding reach_of
read_within after n p h = rw h refl

within_not_slash : within ≡ crossing_slash → ⊥
within_not_slash e = let z : ◌≡◌ {A = ℕ} 0 1 = cc in omega arith

crossing_not_slash : crossing ≡ crossing_slash → ⊥
crossing_not_slash e = let z : ◌≡◌ {A = ℕ} 0 1 = cc in omega arith

-- without path mode, or where it does not cross, a run takes what is inside
pub tail_within : (m : Mode) (after : Bool) (p : List ℕ) (t : List ℕ) → 0 < length p → get_or p 0 0 ≡ char "*" → (m.path ≡ false) ⊎ (crosses after (stars p) (drop (stars p) p) ≡ false)
    → tail_matches m after p t ≡ within_then m (drop (stars p) p) t
unfolding within_then
tail_within m after p t l e (inl h) =
    let r = reach_of after (stars p) (drop (stars p) p) in
    run_step m after p r t l e refl (run_stays m r (inl h))
    ∙ run_same (passes m r) (inside m) (tail_matches m false (drop (stars p) p)) (tail_matches m false (drop (stars p) p)) (λ x. plain_passes m r x h) (λ u. refl) t
tail_within m after p t l e (inr h) = run_step m after p within t l e (read_within after (stars p) (drop (stars p) p) h) (run_stays m within (inr within_not_slash))

run_takes_all : (t : List ℕ) → run_then (λ x. true) is_empty t ≡ true
run_takes_all [] = refl
run_takes_all (x ∷ t) = run_takes_all t

read_crossing : (after : Bool) (n : ℕ) (p : List ℕ) → crosses after n p ≡ true → starts_slash p ≡ false → reach_of after n p ≡ crossing
unfolding reach_of
read_crossing after n p h s = rw (h, s) refl

read_slash : (after : Bool) (n : ℕ) (p : List ℕ) → crosses after n p ≡ true → starts_slash p ≡ true → reach_of after n p ≡ crossing_slash
unfolding reach_of
read_slash after n p h s = rw (h, s) refl

-- a crossing run at the end takes all
pub tail_all : (m : Mode) (after : Bool) (p : List ℕ) (t : List ℕ) → 0 < length p → get_or p 0 0 ≡ char "*" → crosses after (stars p) (drop (stars p) p) ≡ true → drop (stars p) p ≡ []
    → tail_matches m after p t ≡ true
unfolding starts_slash
tail_all m after p t l e h q =
    run_step m after p crossing t l e (read_crossing after (stars p) (drop (stars p) p) h (rw q refl)) (run_stays m crossing (inr crossing_not_slash))
    ∙ rw q (run_same (λ x. true) (λ x. true) (tail_matches m false []) is_empty (λ x. refl) (λ u. tail_nil m false u) t ∙ run_takes_all t)

slash_accepts : (m : Mode) (x : ℕ) → accepts m (literal (char "/")) x ≡ eqb x (char "/")
unfolding accepts
slash_accepts m x = folded_slash m.fold x

one_same : (a b : ℕ → Bool) (f g : List ℕ → Bool) → ((x : ℕ) → a x ≡ b x) → ((t : List ℕ) → f t ≡ g t) → (t : List ℕ) → one_then a f t ≡ one_then b g t
one_same a b f g h k t = ap₂ (λ c d. one_then c d t) (fun_ext h) (fun_ext k)

-- a literal `/`, however it is written
slash_step : (m : Mode) (after : Bool) (x : ℕ) (q : List ℕ) (n : ℕ) (u : List ℕ) → read_item after x q ≡ item (literal (char "/")) n → after_at after (x ∷ q) n ≡ true
    → tail_matches m after (x ∷ q) u ≡ one_then (λ y. eqb y (char "/")) (tail_matches m true (drop n (x ∷ q))) u
slash_step m after x q n u e h =
    tail_one m after x q (literal (char "/")) n u e refl
    ∙ one_same (accepts m (literal (char "/"))) (λ y. eqb y (char "/")) (tail_matches m (after_at after (x ∷ q) n) (drop n (x ∷ q))) (tail_matches m true (drop n (x ∷ q))) (slash_accepts m)
    (λ w. ap (λ (b : Bool). tail_matches m b (drop n (x ∷ q)) w) h) u

-- what follows a crossing run is the end, `/` or `\/`
pub escaped_rest : (q : List ℕ) → component_ends q ≡ true → starts_slash q ≡ false → (length q ≡ 0 → ⊥) → (s : List ℕ) × (q ≡ char "\\" ∷ char "/" ∷ s)
unfolding component_ends starts_slash
escaped_rest [] h e n = absurd (n refl)
escaped_rest (x ∷ []) h e n = absurd (false≢true (rw (e, and-false (eqb x (char "\\"))) at h))
escaped_rest (x ∷ y ∷ q) h e n = let b = and_parts (eqb x (char "\\")) (eqb y (char "/")) (rw e at h) in
    (q, ap₂ (λ (a c : ℕ). a ∷ c ∷ q) (eqb-true x (char "\\") b.0) (eqb-true y (char "/") b.1))

slash_rest : (q : List ℕ) → starts_slash q ≡ true → (s : List ℕ) × (q ≡ char "/" ∷ s)
unfolding starts_slash
slash_rest [] h = absurd (false≢true h)
slash_rest (x ∷ q) h = (q, ap (λ (a : ℕ). a ∷ q) (eqb-true x (char "/") h))

pub crosses-ends : (after : Bool) (n : ℕ) (q : List ℕ) → crosses after n q ≡ true → (after ≡ true) × (component_ends q ≡ true)
unfolding crosses
crosses-ends true n q h = (refl, (and_parts (leb 2 n) (component_ends q) h).1)
crosses-ends false n q h = absurd (false≢true h)

escaped_step : (m : Mode) (s u : List ℕ) → tail_matches m false (char "\\" ∷ char "/" ∷ s) u ≡ one_then (λ x. eqb x (char "/")) (tail_matches m true s) u
unfolding read_item after_at
escaped_step m s u = slash_step m false (char "\\") (char "/" ∷ s) 2 u refl refl

-- a crossing run before `\/`
pub tail_escaped : (m : Mode) (after : Bool) (p : List ℕ) (t : List ℕ) → 0 < length p → get_or p 0 0 ≡ char "*" → crosses after (stars p) (drop (stars p) p) ≡ true
    → starts_slash (drop (stars p) p) ≡ false
    → (length (drop (stars p) p) ≡ 0 → ⊥) → tail_matches m after p t ≡ slash_then m false (drop 2 (drop (stars p) p)) t
unfolding slash_then
tail_escaped m after p t l e h s n =
    run_step m after p crossing t l e (read_crossing after (stars p) (drop (stars p) p) h s) (run_stays m crossing (inr crossing_not_slash))
    ∙ go (drop (stars p) p) (escaped_rest (drop (stars p) p) (crosses-ends after (stars p) (drop (stars p) p) h).1 s n)
  where
    go : (q : List ℕ) → (s : List ℕ) × (q ≡ char "\\" ∷ char "/" ∷ s)
        → run_then (λ x. true) (tail_matches m false q) t ≡ run_then (λ x. true) (one_then (λ x. eqb x (char "/")) (tail_matches m true (drop 2 q))) t
    go q k =
        rw k.1 (run_same (λ x. true) (λ x. true) (tail_matches m false (char "\\" ∷ char "/" ∷ k.0)) (one_then (λ x. eqb x (char "/")) (tail_matches m true k.0)) (λ x. refl)
        (escaped_step m k.0) t)

-- a crossing run and its slash, which may take nothing together
vanish_step : (m : Mode) (o : Option (List Item)) (t : List ℕ) → m.path ≡ true
    → shares_of m (and_item (run crossing_slash) (and_item (literal (char "/")) o)) t ≡ (shares_of m o t || run_then (λ x. true) (one_then (λ x. eqb x (char "/")) (shares_of m o)) t)
vanish_step m None t h =
    sym (run_same (λ x. true) (λ x. true) (one_then (λ x. eqb x (char "/")) (λ u. false)) (λ u. false) (λ x. refl) (λ u. one_none (λ x. eqb x (char "/")) u) t ∙ run_none (λ x. true) t)
vanish_step m (Some its) t h =
    ap (λ (b : Bool). run_then (λ x. true) (shares_test m (literal (char "/") ∷ its)) t || (b && true) && shares_test m its t) h
    ∙ or_comm (run_then (λ x. true) (shares_test m (literal (char "/") ∷ its)) t) (shares_test m its t)
    ∙ ap (λ (b : Bool). shares_test m its t || b)
    (run_same (λ x. true) (λ x. true) (shares_test m (literal (char "/") ∷ its)) (one_then (λ x. eqb x (char "/")) (shares_test m its)) (λ x. refl)
    (λ u. step_of m (literal (char "/")) (Some its) u (λ jt. refl)
    ∙ one_same (accepts m (literal (char "/"))) (λ x. eqb x (char "/")) (shares_test m its) (shares_test m its) (slash_accepts m) (λ w. refl) u) t)

slash_items : (s : List ℕ) → items_from (char "/" ∷ s) 0 false ≡ and_item (literal (char "/")) (items_from s 0 true)
unfolding read_item after_at
slash_items s = items_step false (char "/") s (literal (char "/")) 1 refl

pub tail_slash : (m : Mode) (after : Bool) (p : List ℕ) (t : List ℕ) → m.path ≡ true → 0 < length p → get_or p 0 0 ≡ char "*" → crosses after (stars p) (drop (stars p) p) ≡ true
    → starts_slash (drop (stars p) p) ≡ true
    → tail_matches m after p t ≡ slash_then m true (drop 1 (drop (stars p) p)) t
unfolding slash_then tail_matches
tail_slash m after [] t c l e h s = absurd (omega arith)
tail_slash m after (x ∷ p) t c l e h s =
    let k = read_star after x p e ∙ ap (λ (r : Reach). item (run r) (stars (x ∷ p))) (read_slash after (stars (x ∷ p)) (drop (stars (x ∷ p)) (x ∷ p)) h s) in
    let b = (subst (Sized after (x ∷ p)) k (item_sized after x p)).2 in
    let q = slash_rest (drop (stars (x ∷ p)) (x ∷ p)) s in
    ap (λ o. shares_of m o t) (items_step after x p (run crossing_slash) (stars (x ∷ p)) k ∙ ap₂ (λ l f. and_item (run crossing_slash) (items_from l 0 f)) q.1 b
    ∙ ap (and_item (run crossing_slash)) (slash_items q.0))
    ∙ vanish_step m (items_from q.0 0 true) t c
    ∙ ap (λ (l : List ℕ). shares_of m (items_from l 0 true) t || run_then (λ y. true) (one_then (λ y. eqb y (char "/")) (λ u. shares_of m (items_from l 0 true) u)) t) (sym (ap (drop 1) q.1))

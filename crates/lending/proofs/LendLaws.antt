-- Lending one file more, and all of them, over plain lists.
use mathlib.Core.Path.{◌≡◌, refl, sym, ap, ◌∙◌}
use mathlib.Core.Bool.{Bool, true, false, cond, false≢true}
use mathlib.Core.Logic.{◌⊎◌, inl, inr}
use mathlib.Core.List.{List, [], ◌∷◌, ◌++◌}
use Prim.Native.Nat.{ℕ, ◌+◌, ◌-◌, ◌<◌, ◌≤◌}
use native.Mathlib.Numerals.{add-one}
use native.Mathlib.Omega.{arith}
use lib.ListN.{length, take, set, length-append, length-set}
use lib.Seq.{paste, take-paste, length-paste, take-length, take-suc-set, length-take-le}
use Rattle.rulefiles.specs.RuleFiles.{bytes_between}
use Rattle.std.specs.Prelude.{Result, Ok, Err, IsErr}
use Rattle.lending.specs.declared.Lent.{Lent}
use Rattle.lending.specs.declared.Full.{Full}
use Rattle.lending.specs.declared.Buffers.{Buffers}
use Rattle.lending.specs.Lending.{parts_from, parts, above, Lists, with_file, lend_one, lend_all, lists, Holds, NoRoom, Lends}
use Rattle.lending.specs.inner.Room.{Within, taken}

-- the lists stand at the front of these buffers
abbrev pub HoldsIn : Lists → Lent → Buffers → Type 0
HoldsIn l lent b = Holds l lent b.rules.now b.ends.now b.bases.now b.numbers.now

-- what the front of the buffers holds
pub holds_taken : (l : Lists) (lent : Lent) (b : Buffers) → HoldsIn l lent b → taken lent b ≡ l
unfolding Holds taken
holds_taken l lent b h = rw (h.0.1, h.1.0.1, h.1.1.0.1, h.1.1.1.1)

pub holds_within : (l : Lists) (lent : Lent) (b : Buffers) → HoldsIn l lent b → Within lent b
unfolding Holds Within
holds_within l lent b h = (h.0.0, (h.1.0.0, (h.1.1.0.0, h.1.1.1.0)))

-- the lists as the buffers hold them
pub taken_holds : (l : Lists) (lent : Lent) (b : Buffers) → Within lent b → l ≡ taken lent b → HoldsIn l lent b
unfolding Holds Within taken
taken_holds l lent b w h = rw h ((w.0, refl), ((w.1.0, refl), ((w.1.1.0, refl), (w.1.1.1, refl))))

-- a number stored behind the first n
stored : (n v : ℕ) (s : List ℕ) (x : ℕ) → n < length s → v ≡ x → (n + 1 ≤ length (set s n v)) × (take (n + 1) (set s n v) ≡ take n s ++ x ∷ [])
stored n v s x h e = (simp length-set (omega arith), rw (add-one n) (take-suc-set s n v h ∙ ap (λ (y : ℕ). take n s ++ y ∷ []) e))

module _ (path : List ℕ) (n : ℕ) (d f : List ℕ) (lent : Lent) (b : Buffers) (w : Within lent b) where
  -- the file does not stand above the path
  pub not_lent : false ≡ above d path → HoldsIn (lend_one path n d f (taken lent b)) lent b
  unfolding lend_one
  not_lent h = rw (← h) (taken_holds (taken lent b) lent b w refl)

  module _ (h : true ≡ above d path) where
    -- it does, and one of the buffers has no room
    pub no_rules : length b.rules.now - lent.bytes < length f → NoRoom (lend_one path n d f (taken lent b)) b.rules.now b.ends.now b.bases.now b.numbers.now
    unfolding NoRoom Within taken lend_one with_file
    no_rules s = rw (← h) (inl (simp length-append (rw (length-take-le lent.bytes b.rules.now w.0) (omega (arith, w.0)))))

    pub no_ends : length b.ends.now ≤ lent.files → NoRoom (lend_one path n d f (taken lent b)) b.rules.now b.ends.now b.bases.now b.numbers.now
    unfolding NoRoom Within taken lend_one with_file
    no_ends s = rw (← h) (inr (inl (simp length-append (rw (length-take-le lent.files b.ends.now w.1.0) (omega (arith, w.1.0))))))

    pub no_bases : length b.bases.now ≤ lent.files → NoRoom (lend_one path n d f (taken lent b)) b.rules.now b.ends.now b.bases.now b.numbers.now
    unfolding NoRoom Within taken lend_one with_file
    no_bases s = rw (← h) (inr (inr (inl (simp length-append (rw (length-take-le lent.files b.bases.now w.1.1.0) (omega (arith, w.1.1.0)))))))

    pub no_numbers : length b.numbers.now ≤ lent.files → NoRoom (lend_one path n d f (taken lent b)) b.rules.now b.ends.now b.bases.now b.numbers.now
    unfolding NoRoom Within taken lend_one with_file
    no_numbers s = rw (← h) (inr (inr (inr (simp length-append (rw (length-take-le lent.files b.numbers.now w.1.1.1) (omega (arith, w.1.1.1)))))))

    -- it does, and there is room
    pub lent_more : lent.bytes + length f ≤ length b.rules.now → lent.files < length b.ends.now → lent.files < length b.bases.now → lent.files < length b.numbers.now
        → Holds (lend_one path n d f (taken lent b)) (record { files = lent.files + 1; bytes = lent.bytes + length f }) (paste b.rules.now lent.bytes f (length f))
        (set b.ends.now lent.files (lent.bytes + length f)) (set b.bases.now lent.files (length d)) (set b.numbers.now lent.files n)
    unfolding Holds Within taken lend_one with_file
    lent_more hr he hb hm =
        let r = b.rules.now in
        let whole : length (take lent.bytes r ++ f) ≡ lent.bytes + length f = length-append (take lent.bytes r) f ∙ ap (λ (x : ℕ). x + length f) (length-take-le lent.bytes r w.0) in
        let front : take (lent.bytes + length f) (paste r lent.bytes f (length f)) ≡ take lent.bytes r ++ f = take-paste r lent.bytes f (length f) w.0 (omega arith)
        ∙ ap (λ (x : List ℕ). take lent.bytes r ++ x) (take-length f) in
        rw (← h) (
          (rw (length-paste r lent.bytes f (length f) hr (omega arith)) hr, front),
          (
            stored lent.files (lent.bytes + length f) b.ends.now (length (take lent.bytes r ++ f))
                he (sym whole),
            (stored lent.files (length d) b.bases.now (length d) hb refl, stored lent.files n b.numbers.now n hm refl),
          ),
        )

-- What is lent only grows.
abbrev Grows : Lists → Lists → Type 0
Grows l k =
    (length l.rules ≤ length k.rules) × ((length l.ends ≤ length k.ends) × ((length l.bases ≤ length k.bases) × (length l.numbers ≤ length k.numbers)))

grows_one : (path : List ℕ) (n : ℕ) (d f : List ℕ) (l : Lists) → Grows l (lend_one path n d f l)
unfolding lend_one with_file
grows_one path n d f l = go (above d path)
  where
    go : (t : Bool) → Grows l (cond t (with_file n d f l) l)
    go true = (simp length-append (omega arith), (simp length-append (omega arith), (simp length-append (omega arith), simp length-append (omega arith))))
    go false = (omega arith, (omega arith, (omega arith, omega arith)))

-- so a list that has no room has none with more lent
no_room_more : (l k : Lists) (r e b m : List ℕ) → Grows l k → NoRoom l r e b m → NoRoom k r e b m
unfolding NoRoom
no_room_more l k r e b m g (inl h) = inl (omega (arith, g.0))
no_room_more l k r e b m g (inr (inl h)) = inr (inl (omega (arith, g.1.0)))
no_room_more l k r e b m g (inr (inr (inl h))) = inr (inr (inl (omega (arith, g.1.1.0))))
no_room_more l k r e b m g (inr (inr (inr h))) = inr (inr (inr (omega (arith, g.1.1.1))))

pub no_room_all : (path : List ℕ) (n : ℕ) (ds fs : List (List ℕ)) (l : Lists) (r e b m : List ℕ) → NoRoom l r e b m → NoRoom (lend_all path n ds fs l) r e b m
no_room_all path n ds [] l r e b m h = h
no_room_all path n [] (f ∷ fs) l r e b m h = h
no_room_all path n (d ∷ ds) (f ∷ fs) l r e b m h = no_room_all path (n + 1) ds fs (lend_one path n d f l) r e b m (no_room_more l (lend_one path n d f l) r e b m (grows_one path n d f l) h)

-- What is lent when the files of these ends come next, from number i on; those before them ended where these start.
abbrev pub pending : (path directories files : List ℕ) (directory_start file_start i : ℕ) (directory_ends file_ends : List ℕ) → Lists → Lists
pending path directories files directory_start file_start i directory_ends file_ends l =
    lend_all path i (parts_from directory_start directories directory_ends) (parts_from file_start files file_ends) l

-- At first all come next, and nothing is lent.
pub all_pending : (path directories files des fes : List ℕ) (k : ℕ) (des' fes' : List ℕ) (b : Buffers) → k ≡ 0 → des' ≡ des → fes' ≡ fes
    → lists path (parts directories des) (parts files fes) ≡ pending path directories files 0 0 k des' fes' (taken (record { files = 0; bytes = 0 }) b)
unfolding lists parts taken
all_pending path directories files des fes k des' fes' b e ed ef = rw (e, ed, ef) refl

-- nothing comes next: there is no file more, or no directory for it
pub nothing_pending : (path directories files : List ℕ) (ds fs i : ℕ) (des fes : List ℕ) (l : Lists) → (length fes ≡ 0) ⊎ (length des ≡ 0)
    → pending path directories files ds fs i des fes l ≡ l
nothing_pending path directories files ds fs i des [] l e = refl
nothing_pending path directories files ds fs i [] (f ∷ fes) l e = refl
nothing_pending path directories files ds fs i (d ∷ des) (f ∷ fes) l (inl e) = absurd (omega arith)
nothing_pending path directories files ds fs i (d ∷ des) (f ∷ fes) l (inr e) = absurd (omega arith)

-- A turn: file i was judged, with directory d and bytes f, and the next two ends are behind it.
module _ (path directories files : List ℕ) (ds fs k i next : ℕ) (des fes des' fes' : List ℕ) (de fe : ℕ) (all l : Lists) (d f : List ℕ) (o : Result Lent Full) (b : Buffers)
    (eq : all ≡ pending path directories files ds fs k des fes l) (ef : fes ≡ fe ∷ fes') (ed : des ≡ de ∷ des') (ei : i ≡ k) (en : next ≡ k + 1)
    (pd : d ≡ bytes_between ds de directories) (pf : f ≡ bytes_between fs fe files) (lends : Lends (lend_one path i d f l) o b) where
  turned : all ≡ pending path directories files de fe next des' fes' (lend_one path i d f l)
  turned = eq ∙ rw (ed, ef, pd, pf, ei, en) refl

  -- a list had no room: then the lists have none
  pub turn_full : (full : Full) → o ≡ Err full → (r : Result Lent Full) → IsErr r → Lends all r b
  turn_full full q (Ok lent) e = absurd (false≢true e)
  turn_full full q (Err again) e =
      let no : Lends (lend_one path i d f l) (Err full) b = rw q at lends in
      rw turned (no_room_all path next (parts_from de directories des') (parts_from fe files fes') (lend_one path i d f l)
      b.rules.now b.ends.now b.bases.now b.numbers.now no)

  pub turn_done : (lent : Lent) → o ≡ Ok lent → (all ≡ pending path directories files de fe next des' fes' (taken lent b)) × Within lent b
  turn_done lent q =
      let holds : HoldsIn (lend_one path i d f l) lent b = rw q at lends in (
        turned ∙ ap (pending path directories files de fe next des' fes') (sym (holds_taken (lend_one path i d f l) lent b holds)),
        holds_within (lend_one path i d f l) lent b holds,
      )

-- What document 01's table says of the lists that are lent: of refusal 2's conditions only "over 64 files" can hold.
use Prim.Native.Nat.{ℕ, suc, ◌+◌, ◌-◌, ◌≤◌, ◌<◌}
use mathlib.Core.Path.{◌≡◌, refl, sym, ap, subst, ◌∙◌}
use mathlib.Core.Bool.{Bool, true, false, cond}
use mathlib.Core.Logic.{◌⊎◌, inl, inr, ⊎_elim}
use mathlib.Core.List.Memᴰ
use mathlib.Core.List.{List, [], ◌∷◌, ◌++◌, Memᴰ}
use native.Mathlib.Omega.{arith}
use borrow.Author.Tests.{ltb-true, ltb-false}
use lib.Dec.{ltb}
use lib.ListN.{length, get_or, length-append, get_or-append}
use lib.Seq.{get_or-append_seam}
use Rattle.bytestrings.specs.Text.{char}
use Rattle.refusals.specs.Limits.{files_limit}
use Rattle.questionrefusals.specs.Conditions.{EndBelow, last_end, GoodBase, BaseMisplaced, BadLists}
use Rattle.lending.specs.Lending.{above, Lists, with_file, lend_one, lend_all, lists}
use Rattle.lending.proofs.Meaning.{Above, stands}

-- A directory as it is given: nothing at the top, else with its last slash.
abbrev pub Slashed : List ℕ → Type 0
Slashed d = (d ≡ []) ⊎ (get_or d (length d - 1) 0 ≡ char "/")

abbrev pub AllSlashed : List (List ℕ) → Type 0
AllSlashed [] = Unit {0}
AllSlashed (d ∷ ds) = Slashed d × AllSlashed ds

-- What holds of the lists after each file: each has as many entries, ends do not fall and stay within the rules, and the last is their length.
pub record Laid (l : Lists) : Type 0 where
  pub same : length l.ends ≡ length l.bases
  pub rises : (i : ℕ) → suc i < length l.ends → get_or l.ends i 0 ≤ get_or l.ends (suc i) 0
  pub within : (i : ℕ) → i < length l.ends → get_or l.ends i 0 ≤ length l.rules
  pub last : last_end l.ends ≡ length l.rules

-- every base is a good one
abbrev Good : List ℕ → Lists → Type 0
Good path l = (b : ℕ) → Memᴰ b l.bases → GoodBase path b

-- a directory above the path is a good base
good_base : (path d : List ℕ) → Slashed d → Above d path → GoodBase path (length d)
good_base path d (inl e) h = inl (ap length e)
good_base path [] (inr e) h = inl refl
good_base path (x ∷ d) (inr e) h =
    inr (rw (h.2, length-append (x ∷ d) (h.0 ∷ h.1)) (omega arith), rw h.2 (get_or-append (x ∷ d) (h.0 ∷ h.1) 0 (length (x ∷ d) - 1) (omega arith) ∙ e))

last_end_lem : (ends : List ℕ) (v : ℕ) → last_end (ends ++ v ∷ []) ≡ v
last_end_lem [] v = refl
last_end_lem (e ∷ []) v = refl
last_end_lem (e ∷ f ∷ ends) v = last_end_lem (f ∷ ends) v

-- the places of a list with one number more
before_it : (ends : List ℕ) (v i : ℕ) → i < length ends → get_or (ends ++ v ∷ []) i 0 ≡ get_or ends i 0
before_it ends v i h = get_or-append ends (v ∷ []) 0 i h

at_it : (ends : List ℕ) (v i : ℕ) → i < length (ends ++ v ∷ []) → length ends ≤ i → get_or (ends ++ v ∷ []) i 0 ≡ v
at_it ends v i h k =
    let e : i ≡ length ends = omega (arith, simp length-append at h) in
    rw e (get_or-append_seam ends v [] 0)

module _ (l : Lists) (laid : Laid l) (v : ℕ) (h : length l.rules ≤ v) where
  within_more : (i : ℕ) → i < length (l.ends ++ v ∷ []) → get_or (l.ends ++ v ∷ []) i 0 ≤ v
  within_more i k = go (ltb i (length l.ends)) refl
    where
      go : (t : Bool) → ltb i (length l.ends) ≡ t → get_or (l.ends ++ v ∷ []) i 0 ≤ v
      go true q = let b = ltb-true i (length l.ends) q in rw (before_it l.ends v i b) (omega (arith, laid.within i b))
      go false q = rw (at_it l.ends v i k (ltb-false i (length l.ends) q)) (omega arith)

  rises_more : (i : ℕ) → suc i < length (l.ends ++ v ∷ []) → get_or (l.ends ++ v ∷ []) i 0 ≤ get_or (l.ends ++ v ∷ []) (suc i) 0
  rises_more i k = go (ltb (suc i) (length l.ends)) refl
    where
      go : (t : Bool) → ltb (suc i) (length l.ends) ≡ t → get_or (l.ends ++ v ∷ []) i 0 ≤ get_or (l.ends ++ v ∷ []) (suc i) 0
      go true q = let b = ltb-true (suc i) (length l.ends) q in rw (before_it l.ends v i (omega arith), before_it l.ends v (suc i) b) (laid.rises i b)
      go false q = rw (at_it l.ends v (suc i) k (ltb-false (suc i) (length l.ends) q)) (within_more i (omega arith))

pub laid_more : (n : ℕ) (d f : List ℕ) (l : Lists) → Laid l → Laid (with_file n d f l)
unfolding with_file
laid_more n d f l laid = record {
  same = simp length-append (omega (arith, laid.same));
  rises = rises_more l laid (length (l.rules ++ f)) (simp length-append (omega arith));
  within = within_more l laid (length (l.rules ++ f)) (simp length-append (omega arith));
  last = last_end_lem l.ends (length (l.rules ++ f));
}

good_more : (path : List ℕ) (n : ℕ) (d f : List ℕ) (l : Lists) → Slashed d → above d path ≡ true → Good path l → Good path (with_file n d f l)
unfolding with_file
good_more path n d f l s a good b m =
    ⊎_elim (λ q. good b q) (λ q. subst (GoodBase path) (sym (Memᴰ.eq_of_singleton q)) (good_base path d s (stands d path a))) (Memᴰ.append_cases l.bases m)

-- what every file that is lent keeps, all files together keep
module _ (path : List ℕ) (Keeps : Lists → Type 0) where
  pub kept_one : (n : ℕ) (d f : List ℕ) (l : Lists) → (above d path ≡ true → Keeps l → Keeps (with_file n d f l)) → Keeps l → Keeps (lend_one path n d f l)
  unfolding lend_one
  kept_one n d f l more keeps = go (above d path) refl
    where
      go : (t : Bool) → above d path ≡ t → Keeps (cond t (with_file n d f l) l)
      go true a = more a keeps
      go false a = keeps

laid_all : (path : List ℕ) (n : ℕ) (ds fs : List (List ℕ)) (l : Lists) → Laid l → Laid (lend_all path n ds fs l)
laid_all path n ds [] l k = k
laid_all path n [] (f ∷ fs) l k = k
laid_all path n (d ∷ ds) (f ∷ fs) l k = laid_all path (n + 1) ds fs (lend_one path n d f l) (kept_one path Laid n d f l (λ a. laid_more n d f l) k)

good_all : (path : List ℕ) (n : ℕ) (ds fs : List (List ℕ)) (l : Lists) → AllSlashed ds → Good path l → Good path (lend_all path n ds fs l)
good_all path n ds [] l s k = k
good_all path n [] (f ∷ fs) l s k = k
good_all path n (d ∷ ds) (f ∷ fs) l s k = good_all path (n + 1) ds fs (lend_one path n d f l) s.1 (kept_one path (Good path) n d f l (good_more path n d f l s.0) k)

abbrev pub nothing : Lists
nothing = record { rules = []; ends = []; bases = []; numbers = [] }

pub nothing_laid : Laid nothing
nothing_laid = record {
  same = refl;
  rises = λ i h. absurd (omega arith);
  within = λ i h. absurd (omega arith);
  last = refl;
}

-- Of refusal 2's conditions only "over 64 files" can hold of the lists that are lent.
pub lent_refused : (path : List ℕ) (directories files : List (List ℕ)) → AllSlashed directories
    → BadLists path (lists path directories files).rules (lists path directories files).ends (lists path directories files).bases
    → files_limit < length (lists path directories files).ends
unfolding lists BadLists EndBelow BaseMisplaced
lent_refused path ds fs s bad =
    let k = laid_all path 0 ds fs nothing nothing_laid in
    let g = good_all path 0 ds fs nothing s (λ b m. absurd (Memᴰ.not-nil m)) in
    ⊎_elim (λ x. absurd (x k.same))
    (λ b. ⊎_elim (λ x. x) (λ b. ⊎_elim (λ x. absurd (omega (arith, k.rises x.0 x.1, x.2))) (λ b. ⊎_elim (λ x. absurd (x k.last)) (λ x. absurd (x.2 (g x.0 x.1))) b) b) b) bad

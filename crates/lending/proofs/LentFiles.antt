-- How the questions read the lists that are lent: as the files above the path.
use Prim.Native.Nat.{ℕ, suc, ◌+◌, ◌-◌, ◌≤◌, ◌<◌}
use mathlib.Core.Path.{◌≡◌, refl, sym, ap, ◌∙◌}
use mathlib.Core.Bool.{Bool, true, false, cond}
use mathlib.Core.List.{List, [], ◌∷◌, ◌++◌, append-nil, append_assoc}
use native.Mathlib.Omega.{arith}
use lib.ListN.{length, drop, get_or, length-append}
use lib.Seq.{take-append-le, take-length, drop-append_seam}
use Rattle.rulefiles.specs.RuleFiles.{File, bytes_between, files_from, files}
use Rattle.rulefiles.proofs.PartLaws.{part_upto}
use Rattle.questionrefusals.specs.Conditions.{last_end}
use Rattle.questionrefusals.proofs.ListLaws.{last_zero}
use Rattle.lending.specs.Lending.{above, Lists, with_file, lend_one, lend_all, lists}
use Rattle.lending.proofs.Laid.{Laid, laid_more, kept_one, nothing, nothing_laid}

-- The files above the path, in their order, as the questions read them from the lent lists: each with its directory's length as its base.
abbrev pub files_above : List ℕ → ℕ → ℕ → List (List ℕ) → List (List ℕ) → List File
files_above path number start ds [] = []
files_above path number start [] (f ∷ fs) = []
files_above path number start (d ∷ ds) (f ∷ fs) =
    cond (above d path) (record { number = number; base = length d; start = start; bytes = f } ∷ files_above path (number + 1) (start + length f) ds fs)
    (files_above path number start ds fs)

-- the number and the start of a file that is laid behind these, counted on from a number and a start
abbrev number_on : ℕ → List ℕ → ℕ
number_on m [] = m
number_on m (e ∷ es) = number_on (suc m) es

abbrev start_on : ℕ → List ℕ → ℕ
start_on s [] = s
start_on s (e ∷ es) = start_on e es

number_on_lem : (m : ℕ) (es : List ℕ) → number_on m es ≡ m + length es
number_on_lem m [] = omega arith
number_on_lem m (e ∷ es) = number_on_lem (suc m) es ∙ omega arith

start_on_lem : (s : ℕ) (es : List ℕ) → start_on s es ≡ last_end (s ∷ es)
start_on_lem s [] = refl
start_on_lem s (e ∷ es) = start_on_lem e es

-- a part that ends within the first bytes does not see those behind them
same_part : (s e : ℕ) (r f : List ℕ) → e ≤ length r → bytes_between s e (r ++ f) ≡ bytes_between s e r
same_part s e r f h = part_upto s e (r ++ f) ∙ ap (drop s) (take-append-le e r f h) ∙ sym (part_upto s e r)

-- the files of lists with one file more
one_more : (r f : List ℕ) (v k m s : ℕ) (es bs : List ℕ) → length es ≡ length bs → ((i : ℕ) → i < length es → get_or es i 0 ≤ length r)
    → files_from m s (r ++ f) (es ++ v ∷ []) (bs ++ k ∷ [])
    ≡ files_from m s r es bs ++ record { number = number_on m es; base = k; start = start_on s es; bytes = bytes_between (start_on s es) v (r ++ f) } ∷ []
one_more r f v k m s [] [] l w = refl
one_more r f v k m s [] (b ∷ bs) l w = absurd (omega arith)
one_more r f v k m s (e ∷ es) [] l w = absurd (omega arith)
one_more r f v k m s (e ∷ es) (b ∷ bs) l w =
    rw (same_part s e r f (w 0 (omega arith))) (ap (λ (x : List File). record { number = m; base = b; start = s; bytes = bytes_between s e r } ∷ x)
    (one_more r f v k (suc m) e es bs (omega arith) (λ i h. w (suc i) (omega arith))))

-- the part behind the first bytes
behind : (r f : List ℕ) → bytes_between (length r) (length (r ++ f)) (r ++ f) ≡ f
unfolding bytes_between
behind r f = let e : length (r ++ f) - length r ≡ length f = omega (arith, length-append r f) in rw (e, drop-append_seam r f) (take-length f)

abbrev files_in : Lists → List File
files_in l = files l.rules l.ends l.bases

with_file_lem : (n : ℕ) (d f : List ℕ) (l : Lists) → Laid l
    → files_in (with_file n d f l) ≡ files_in l ++ record { number = length l.ends; base = length d; start = length l.rules; bytes = f } ∷ []
unfolding with_file files
with_file_lem n d f l laid =
    let a : number_on 0 l.ends ≡ length l.ends = number_on_lem 0 l.ends ∙ omega arith in
    let b : start_on 0 l.ends ≡ length l.rules = start_on_lem 0 l.ends ∙ sym (last_zero l.ends) ∙ laid.last in
    one_more l.rules f (length (l.rules ++ f)) (length d) 0 0 l.ends l.bases laid.same laid.within ∙ rw (a, b, behind l.rules f)

lent_is : (path : List ℕ) (n : ℕ) (d f : List ℕ) (l : Lists) → above d path ≡ true → lend_one path n d f l ≡ with_file n d f l
unfolding lend_one
lent_is path n d f l a = rw a

not_lent_is : (path : List ℕ) (n : ℕ) (d f : List ℕ) (l : Lists) → above d path ≡ false → lend_one path n d f l ≡ l
unfolding lend_one
not_lent_is path n d f l a = rw a

ends_more : (n : ℕ) (d f : List ℕ) (l : Lists) → length (with_file n d f l).ends ≡ length l.ends + 1
unfolding with_file
ends_more n d f l = length-append l.ends (length (l.rules ++ f) ∷ [])

rules_more : (n : ℕ) (d f : List ℕ) (l : Lists) → length (with_file n d f l).rules ≡ length l.rules + length f
unfolding with_file
rules_more n d f l = length-append l.rules f

files_all : (path : List ℕ) (n : ℕ) (ds fs : List (List ℕ)) (l : Lists) → Laid l
    → files_in (lend_all path n ds fs l) ≡ files_in l ++ files_above path (length l.ends) (length l.rules) ds fs
files_all path n ds [] l laid = sym (append-nil (files_in l))
files_all path n [] (f ∷ fs) l laid = sym (append-nil (files_in l))
files_all path n (d ∷ ds) (f ∷ fs) l laid =
    files_all path (n + 1) ds fs (lend_one path n d f l) (kept_one path Laid n d f l (λ a. laid_more n d f l) laid) ∙ go (above d path) refl
  where
    go : (t : Bool) → above d path ≡ t
        → files_in (lend_one path n d f l) ++ files_above path (length (lend_one path n d f l).ends) (length (lend_one path n d f l).rules) ds fs
        ≡ files_in l ++ cond t (record { number = length l.ends; base = length d; start = length l.rules; bytes = f } ∷ files_above path (length l.ends + 1) (length l.rules + length f) ds
        fs) (files_above path (length l.ends) (length l.rules) ds fs)
    go true a = rw (lent_is path n d f l a, with_file_lem n d f l laid, ends_more n d f l, rules_more n d f l) (append_assoc (files_in l) _ _)
    go false a = rw (not_lent_is path n d f l a)

-- Read by the questions' own rule, the lent lists are the files above the path, in their order, each with its directory's length as its base.
pub lent_files : (path : List ℕ) (directories given : List (List ℕ))
    → files (lists path directories given).rules (lists path directories given).ends (lists path directories given).bases ≡ files_above path 0 0 directories given
unfolding lists files
lent_files path ds fs = files_all path 0 ds fs nothing nothing_laid

-- Lines over the limit: in a file, by its newlines, and in the files.
use mathlib.Core.Path.{◌≡◌, refl, sym, ap, subst, ◌∙◌}
use mathlib.Core.Logic.{⊎_elim, ◌↔◌}
use mathlib.Core.Bool.{Bool, true, false, cond}
use mathlib.Core.List.Memᴰ
use mathlib.Core.List.{List, [], ◌∷◌, ◌++◌, Memᴰ}
use Prim.Native.Nat.{ℕ, zero, suc, ◌+◌, ◌<◌, ◌≤◌}
use native.Mathlib.Numerals.{add-one}
use native.Mathlib.Omega.{arith}
use lib.Dec.{eqb}
use lib.ListN.{length, get_or, take, drop, length-take, drop_of_length-le}
use lib.Seq.{length-take-le, split_at}
use Rattle.std.proofs.lemmas.Bool.{cases_lt}
use Rattle.std.proofs.lemmas.List.{get_or-take}
use borrow.Author.Tests.{ne_eqb}
use Rattle.bytestrings.specs.Text.{newline}
use Rattle.rulefiles.specs.RuleFiles.{File, onto, split, line_length, bytes_between, files_from, files}
use Rattle.rulefiles.proofs.LineLaws.{split_first, line_fits}
use Rattle.refusals.specs.Limits.{line_limit}
use Rattle.questionrefusals.specs.Conditions.{LongLine}
use Rattle.questionrefusals.specs.inner.Scans.{LongIn, LastNewline}
use Rattle.std.specs.Prelude.{Option, None, Some, min}
use Rattle.bytestrings.proofs.SliceLaws.{next, from, from-drop}

abbrev Within : List (List ℕ) → ℕ → Type 0
Within ls n = (l : List ℕ) → Memᴰ l ls → length l ≤ n

within_front : (l : List ℕ) (ls : List (List ℕ)) (n : ℕ) → length l ≤ n → Within ls n → Within (l ∷ ls) n
within_front l ls n h w k m = ⊎_elim (λ e. omega (arith, ap length e)) (w k) (Memᴰ.cases_cons m)

within-onto : (b : ℕ) (ls : List (List ℕ)) (n : ℕ) → Within ls n → Within (onto b ls) (suc n)
within-onto b [] n w = within_front (b ∷ []) [] (suc n) (omega arith) (λ k m. absurd (Memᴰ.not-nil m))
within-onto b (l ∷ ls) n w = within_front (b ∷ l) ls (suc n) (omega (arith, w l (Memᴰ.head refl))) (λ k m. omega (arith, w k (Memᴰ.tail m)))

-- no line is longer than all bytes
within-split : (s : List ℕ) → Within (split s) (length s)
unfolding split
within-split [] = λ l m. absurd (Memᴰ.not-nil m)
within-split (b ∷ s) = go (eqb b newline) (within-split s)
  where
    go : (t : Bool) → Within (split s) (length s) → Within (cond t ([] ∷ split s) (onto b (split s))) (suc (length s))
    go true w = within_front [] (split s) (suc (length s)) (omega arith) (λ k m. omega (arith, w k m))
    go false w = within-onto b (split s) (length s) w

-- bytes with a newline: the lines up to it, which fit into the bytes before it, and the lines after it
record Cut (x y : List ℕ) : Type 0 where
  first : List ℕ
  more : List (List ℕ)
  is : split (x ++ newline ∷ y) ≡ first ∷ more ++ split y
  short : Within (first ∷ more) (length x)

cut : (x y : List ℕ) → Cut x y
unfolding split
cut [] y = record { first = []; more = []; is = refl; short = within_front [] [] 0 (omega arith) (λ k m. absurd (Memᴰ.not-nil m)) }
cut (b ∷ x) y = go (eqb b newline) refl (cut x y)
  where
    go : (t : Bool) → eqb b newline ≡ t → Cut x y → Cut (b ∷ x) y
    go true e k =
        record { first = []; more = k.first ∷ k.more; is = rw (e, k.is); short = within_front [] (k.first ∷ k.more) (suc (length x)) (omega arith) (λ l m. omega (arith, k.short l m)) }
    go false e k = record { first = b ∷ k.first; more = k.more; is = rw (e, k.is); short = within-onto b (k.first ∷ k.more) (length x) k.short }

-- A line over the limit stands after a newline that comes within the limit, or begins the bytes, or is not.
long_behind : (x y : List ℕ) → length x ≤ line_limit → LongIn (x ++ newline ∷ y) ↔ LongIn y
unfolding LongIn
long_behind x y h =
    let k = cut x y in
    let ls : List (List ℕ) = k.first ∷ k.more in (
      λ p. ⊎_elim (λ m. absurd (omega (arith, p.2, k.short p.0 m))) (λ m. (p.0, m, p.2)) (Memᴰ.append_cases ls (subst (λ (q : List (List ℕ)). Memᴰ p.0 q) k.is p.1)),
      λ p. (p.0, subst (λ (q : List (List ℕ)). Memᴰ p.0 q) (sym k.is) (Memᴰ.append_right ls p.1), p.2),
    )

long_first : (d : List ℕ) → line_limit < line_length d → LongIn d
unfolding LongIn
long_first d h =
    let f = line_fits d in
    (take (line_length d) d, subst (λ (q : List (List ℕ)). Memᴰ (take (line_length d) d) q) (sym (split_first d (omega arith))) (Memᴰ.head refl), rw (length-take-le (line_length d) d f) h)

long_none : (d : List ℕ) → length d ≤ line_limit → LongIn d → ⊥
unfolding LongIn
long_none d h p = omega (arith, p.2, within-split d p.0 p.1)

far : (d : List ℕ) (m : ℕ) → m ≤ length d → ((k : ℕ) → k < m → get_or d k 0 ≡ newline → ⊥) → m ≤ line_length d
far [] m h n = h
far (b ∷ d) zero h n = omega arith
far (b ∷ d) (suc m) h n = rw (ne_eqb b newline (n 0 (omega arith))) (omega (arith, far d m (omega arith) (λ k l. n (suc k) (omega arith))))

-- The same by what a search for the last newline gives in one byte more than the limit.
pub long_over : (s : List ℕ) → length s ≤ line_limit → LongIn s → ⊥
long_over s h = long_none s h

pub found_within : (w s : List ℕ) (r : Option ℕ) (n : ℕ) → LastNewline w r → r ≡ Some n → length w ≤ length s → n + 1 ≤ length s
found_within w s r n h e l = let g : LastNewline w (Some n) = subst (LastNewline w) e h in omega (arith, g.0)

module _ (s : List ℕ) (l : line_limit < length s) where
  pub long_here : LastNewline (take (line_limit + 1) s) None → LongIn s
  long_here none =
      long_first s (far s (line_limit + 1) (omega arith)
      (λ i h q. none i (simp length-take (omega arith)) (get_or-take (line_limit + 1) s i 0 h ∙ q)))

  pub long_skip : (n : ℕ) → LastNewline (take (line_limit + 1) s) (Some n) → LongIn s ↔ LongIn (from (n + 1) s)
  long_skip n found =
      let w : n < line_limit + 1 = omega (arith, found.0, length-take (line_limit + 1) s) in
      let p : s ≡ take n s ++ newline ∷ drop (suc n) s =
      split_at s n 0 (omega arith) ∙ ap (λ (x : ℕ). take n s ++ x ∷ drop (suc n) s) (sym (get_or-take (line_limit + 1) s n 0 w) ∙ found.1) in
      rw (add-one n, from-drop (suc n) s) (subst (λ (q : List ℕ). LongIn q ↔ LongIn (drop (suc n) s)) (sym p) (long_behind (take n s) (drop (suc n) s) (simp length-take (omega arith))))

-- The files, one after the other.
unfoldable pub LongFiles : List File → Type 0
LongFiles fs = (f : File) × Memᴰ f fs × LongIn f.bytes

module _ (rules ends bases : List ℕ) where
  pub files_begin : LongLine rules ends bases ↔ LongFiles (files_from 0 0 rules ends bases)
  unfolding LongLine LongIn LongFiles files
  files_begin = (λ p. p, λ p. p)

  module _ (start i : ℕ) where
    files_bare : i < length ends → length bases ≤ i → LongFiles (files_from i start rules (drop i ends) (drop i bases)) → ⊥
    unfolding LongFiles
    files_bare l h p =
        let e : files_from i start rules (drop i ends) (drop i bases) ≡ [] = rw (next ends i l, drop_of_length-le bases {i = i} h) in
        Memᴰ.not-nil (subst (λ (fs : List File). Memᴰ p.0 fs) e p.1)

    pub files_past : i ≡ min (length ends) (length bases) → LongFiles (files_from i start rules (drop i ends) (drop i bases)) → ⊥
    unfolding LongFiles
    files_past h p =
        ⊎_elim
        (λ l. files_bare l (omega (arith, h, l)) p)
        (λ l. Memᴰ.not-nil (subst (λ (es : List ℕ). Memᴰ p.0 (files_from i start rules es (drop i bases))) (drop_of_length-le ends {i = i} l) p.1))
        (cases_lt i (length ends))

    module _ (end : ℕ) (l : i < length ends) (m : i < length bases) (q : end ≡ get_or ends i 0) where
      file : files_from i start rules (drop i ends) (drop i bases)
          ≡ record { number = i; base = get_or bases i 0; start = start; bytes = bytes_between start end rules }
          ∷ files_from (i + 1) end rules (drop (i + 1) ends) (drop (i + 1) bases)
      file = rw (next ends i l, next bases i m, add-one i, q)

      pub file_long : LongIn (bytes_between start end rules) → LongFiles (files_from i start rules (drop i ends) (drop i bases))
      unfolding LongFiles
      file_long h =
          subst (λ (fs : List File). LongFiles fs) (sym file)
          (record { number = i; base = get_or bases i 0; start = start; bytes = bytes_between start end rules }, Memᴰ.head refl, h)

      pub file_fine : (LongIn (bytes_between start end rules) → ⊥)
          → LongFiles (files_from i start rules (drop i ends) (drop i bases)) ↔ LongFiles (files_from (i + 1) end rules (drop (i + 1) ends) (drop (i + 1) bases))
      unfolding LongFiles
      file_fine n =
          subst (λ (fs : List File). LongFiles fs ↔ LongFiles (files_from (i + 1) end rules (drop (i + 1) ends) (drop (i + 1) bases))) (sym file) (
            λ p. ⊎_elim (λ e. absurd (n (subst (λ (f : File). LongIn f.bytes) e p.2))) (λ m. (p.0, m, p.2)) (Memᴰ.cases_cons p.1),
            λ p. (p.0, Memᴰ.tail p.1, p.2),
          )

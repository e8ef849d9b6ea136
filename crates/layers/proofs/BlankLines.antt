-- The lines of a blanked file are the file's lines, of which the chosen ones are spaces.
use Prim.Native.Nat.{ℕ, suc, ◌+◌}
use mathlib.Core.Path.{◌≡◌, refl, sym, ap, subst, ◌∙◌}
use mathlib.Core.Logic.{⊎_elim}
use mathlib.Core.Bool.{Bool, true, false, cond, ◌&&◌, false≢true}
use mathlib.Core.List.{List, [], ◌∷◌, ◌++◌, cons≢nil}
use native.Mathlib.Omega.{arith}
use lib.Dec.{eqb}
use lib.ListN.{length, take, drop}
use borrow.Author.Tests.{eqb-true}
use Rattle.bytestrings.specs.Text.{char, newline}
use Rattle.rulefiles.specs.RuleFiles.{File, Line, onto, split, has_bom, bom_length, lines_from, lines_of}
use Rattle.bytestrings.specs.Bytes.{is_empty}
use Rattle.layers.specs.Blanking.{Choice, overwritten, blanked_file}
use Rattle.layers.proofs.SpaceLines.{spaces, length-spaces}
use Rattle.layers.proofs.Kept.{Blank, Alike, alike_nil, alike_same, alike_blank}
use Rattle.layers.proofs.BlankBytes.{bom-overwritten, with_or_behind}

-- the raw lines of a file from its line n on, the chosen ones as spaces
abbrev pub blank_lines : (ℕ → Bool) → ℕ → List (List ℕ) → List (List ℕ)
blank_lines chosen n [] = []
blank_lines chosen n (l ∷ ls) = cond (chosen n) (spaces l) l ∷ blank_lines chosen (suc n) ls

-- Overwriting bytes commutes with splitting at newlines.

empty_line : (c : Bool) → cond c (spaces []) [] ≡ []
empty_line true = refl
empty_line false = refl

first_line : (c : Bool) (b : ℕ) (l : List ℕ) → cond c (char " ") b ∷ cond c (spaces l) l ≡ cond c (spaces (b ∷ l)) (b ∷ l)
first_line true b l = refl
first_line false b l = refl

no_newline : (c : Bool) (b : ℕ) → eqb b newline ≡ false → eqb (cond c (char " ") b) newline ≡ false
no_newline true b e = refl
no_newline false b e = e

module _ (chosen : ℕ → Bool) where
  onto_blank : (n b : ℕ) (ls : List (List ℕ)) → onto (cond (chosen n) (char " ") b) (blank_lines chosen n ls) ≡ blank_lines chosen n (onto b ls)
  onto_blank n b [] = ap {B = List (List ℕ)} (λ (l : List ℕ). l ∷ []) (ap {B = List ℕ} (λ (l : List ℕ). cond (chosen n) (char " ") b ∷ l) (sym (empty_line (chosen n))) ∙ first_line (chosen n) b [])
  onto_blank n b (l ∷ ls) = ap {B = List (List ℕ)} (λ (x : List ℕ). x ∷ blank_lines chosen (suc n) ls) (first_line (chosen n) b l)

  pub split-overwritten : (n : ℕ) (s : List ℕ) → split (overwritten chosen n s) ≡ blank_lines chosen n (split s)
  unfolding split overwritten
  split-overwritten n [] = refl
  split-overwritten n (b ∷ s) = go (eqb b newline) refl (split-overwritten (suc n) s) (split-overwritten n s)
    where
      go : (t : Bool) → eqb b newline ≡ t → split (overwritten chosen (suc n) s) ≡ blank_lines chosen (suc n) (split s) → split (overwritten chosen n s) ≡ blank_lines chosen n (split s)
          → split (overwritten chosen n (b ∷ s)) ≡ blank_lines chosen n (split (b ∷ s))
      go true e next same = simp (e, next, empty_line)
      go false e next same = rw (e, no_newline (chosen n) b e, same) (onto_blank n b (split s))

-- bytes have a first line
split_some : (s : List ℕ) → is_empty s ≡ false → split s ≡ [] → ⊥
unfolding split
split_some [] h e = false≢true (sym h)
split_some (b ∷ s) h e = go (eqb b newline) (split s) e
  where
    go : (t : Bool) (ls : List (List ℕ)) → cond t ([] ∷ ls) (onto b ls) ≡ [] → ⊥
    go true ls e = cons≢nil e
    go false [] e = cons≢nil e
    go false (l ∷ ls) e = cons≢nil e

-- The lines with their places.

module _ (chosen : Choice) (file base : ℕ) where
  blank_at : (n start again : ℕ) (l raw : List ℕ) → chosen.line file n ≡ true
      → Blank chosen (record { file = file; number = n; base = base; start = start; bytes = l }) (record { file = file; number = n; base = base; start = again; bytes = spaces raw })
  blank_at n start again l raw e = record { was_chosen = e; same_file = refl; same_number = refl; same_base = refl; raw = raw; all_spaces = refl }

  -- `again` is the start, perhaps written in another way
  alike_lines : (n start again : ℕ) → again ≡ start → (ls : List (List ℕ)) → Alike chosen (lines_from file base n start ls) (lines_from file base n again (blank_lines (chosen.line file) n ls))
  alike_lines n start again h [] = alike_nil
  alike_lines n start again h (l ∷ ls) = go (chosen.line file n) refl (λ k e. alike_lines (suc n) (start + length l + 1) k e ls)
    where
      go : (c : Bool) → chosen.line file n ≡ c
          → ((k : ℕ) → k ≡ start + length l + 1 → Alike chosen (lines_from file base (suc n) (start + length l + 1) ls) (lines_from file base (suc n) k (blank_lines (chosen.line file) (suc n) ls)))
          → Alike chosen (lines_from file base n start (l ∷ ls)) (lines_from file base n again (cond c (spaces l) l ∷ blank_lines (chosen.line file) (suc n) ls))
      go true e a = alike_blank (blank_at n start again l l e) (a (again + length (spaces l) + 1) (omega (arith, length-spaces l)))
      go false e a = alike_same (ap (λ (k : ℕ). record { file = file; number = n; base = base; start = k; bytes = l }) h) (a (again + length l + 1) (omega arith))

  -- blanked with its BOM, line 1 is three spaces longer and starts where the BOM did
  alike_bom : (start : ℕ) (s : List ℕ) → is_empty s ≡ false → chosen.line file 1 ≡ true
      → Alike chosen (lines_from file base 1 (start + 3) (split s)) (lines_from file base
      1 (start + 0) (onto (char " ") (onto (char " ") (onto (char " ") (blank_lines (chosen.line file) 1 (split s))))))
  alike_bom start s h c = go (split s) (split_some s h)
    where
      go : (ls : List (List ℕ)) → (ls ≡ [] → ⊥)
          → Alike chosen (lines_from file base 1 (start + 3) ls) (lines_from file base 1 (start + 0) (onto (char " ") (onto (char " ") (onto (char " ") (blank_lines (chosen.line file) 1 ls)))))
      go [] k = absurd (k refl)
      go (l ∷ ls) k =
          rw c (alike_blank (blank_at 1 (start + 3) (start + 0) l (0xEF ∷ 0xBB ∷ 0xBF ∷ l) c)
          (alike_lines 2 (start + 3 + length l + 1) (start + 0 + length (char " " ∷ char " " ∷ char " " ∷ spaces l) + 1) (omega (arith, length-spaces l)) ls))

-- a file that begins with a BOM
pub bom-bytes : (s : List ℕ) → has_bom s ≡ true → (t : List ℕ) × (s ≡ 0xEF ∷ 0xBB ∷ 0xBF ∷ t)
bom-bytes [] h = absurd (false≢true h)
bom-bytes (a ∷ []) h = absurd (false≢true h)
bom-bytes (a ∷ b ∷ []) h = absurd (false≢true h)
bom-bytes (a ∷ b ∷ c ∷ s) h = go (eqb a 0xEF) (eqb b 0xBB) (eqb c 0xBF) refl refl refl h
  where
    go : (x y z : Bool) → eqb a 0xEF ≡ x → eqb b 0xBB ≡ y → eqb c 0xBF ≡ z → x && (y && z) ≡ true → (t : List ℕ) × (a ∷ b ∷ c ∷ s ≡ 0xEF ∷ 0xBB ∷ 0xBF ∷ t)
    go true true true p q r h = (s, rw (eqb-true a 0xEF p, eqb-true b 0xBB q, eqb-true c 0xBF r))
    go false y z p q r h = absurd (false≢true h)
    go true false z p q r h = absurd (false≢true h)
    go true true false p q r h = absurd (false≢true h)

-- a file's blanked bytes, lent in its place
unfoldable pub blank_one : Choice → File → File
blank_one chosen f = record { number = f.number; base = f.base; start = f.start; bytes = blanked_file (chosen.line f.number) (chosen.bom f.number) f.bytes }

module _ (chosen : Choice) (file base start : ℕ) where
  -- the lines of these bytes
  abbrev lines_at : List ℕ → List Line
  lines_at s = lines_from file base 1 (start + bom_length s) (split (drop (bom_length s) s))

  -- the lines of other bytes are alike
  abbrev To : List ℕ → List ℕ → Type 0
  To s r = Alike chosen (lines_at s) (lines_at r)

  -- with its BOM, where it has one and a line
  with_bom : (t : List ℕ) → is_empty t ≡ false → To (0xEF ∷ 0xBB ∷ 0xBF ∷ t) (overwritten (chosen.line file) 1 (0xEF ∷ 0xBB ∷ 0xBF ∷ t))
  unfolding bom_length overwritten split
  with_bom t h = go (chosen.line file 1) refl
    where
      go : (c : Bool) → chosen.line file 1 ≡ c → To (0xEF ∷ 0xBB ∷ 0xBF ∷ t) (overwritten (chosen.line file) 1 (0xEF ∷ 0xBB ∷ 0xBF ∷ t))
      go true e = rw (e, split-overwritten (chosen.line file) 1 t) (alike_bom chosen file base start t h e)
      go false e = rw (e, split-overwritten (chosen.line file) 1 t) (alike_lines chosen file base 1 (start + 3) (start + 3) refl (split t))

  -- behind its BOM
  behind_bom : (t : List ℕ) → To (0xEF ∷ 0xBB ∷ 0xBF ∷ t) (0xEF ∷ 0xBB ∷ 0xBF ∷ overwritten (chosen.line file) 1 t)
  unfolding bom_length
  behind_bom t = rw (split-overwritten (chosen.line file) 1 t) (alike_lines chosen file base 1 (start + 3) (start + 3) refl (split t))

  without_bom : (s : List ℕ) → has_bom s ≡ false → To s (overwritten (chosen.line file) 1 s)
  unfolding bom_length
  without_bom s e = rw (e, bom-overwritten (chosen.line file) 1 s e, split-overwritten (chosen.line file) 1 s) (alike_lines chosen file base 1 (start + 0) (start + 0) refl (split s))

  alike_with : (s : List ℕ) → is_empty (drop (bom_length s) s) ≡ false → To s (overwritten (chosen.line file) 1 s)
  unfolding bom_length
  alike_with s = go (has_bom s) refl
    where
      go : (b : Bool) → has_bom s ≡ b → is_empty (drop (bom_length s) s) ≡ false → To s (overwritten (chosen.line file) 1 s)
      go false e h = without_bom s e
      go true e h = let w = bom-bytes s e in subst (λ (r : List ℕ). is_empty (drop (bom_length r) r) ≡ false → To r (overwritten (chosen.line file) 1 r)) (sym w.1) (with_bom w.0) h

  alike_behind : (s : List ℕ) → To s (take (bom_length s) s ++ overwritten (chosen.line file) 1 (drop (bom_length s) s))
  unfolding bom_length
  alike_behind s = go (has_bom s) refl
    where
      go : (b : Bool) → has_bom s ≡ b → To s (take (bom_length s) s ++ overwritten (chosen.line file) 1 (drop (bom_length s) s))
      go false e = let z : overwritten (chosen.line file) 1 s ≡ take (bom_length s) s ++ overwritten (chosen.line file) 1 (drop (bom_length s) s) = rw e in subst (To s) z (without_bom s e)
      go true e = let w = bom-bytes s e in subst (λ (r : List ℕ). To r (take (bom_length r) r ++ overwritten (chosen.line file) 1 (drop (bom_length r) r))) (sym w.1) (behind_bom w.0)

  alike_bytes : (s : List ℕ) → To s (blanked_file (chosen.line file) (chosen.bom file) s)
  alike_bytes s =
      ⊎_elim (λ w. subst (To s) (sym w.1) (alike_with s w.0))
      (λ e. subst (To s) (sym e) (alike_behind s))
      (with_or_behind (chosen.line file) (chosen.bom file) s)

pub alike_file : (chosen : Choice) (f : File) → Alike chosen (lines_of f) (lines_of (blank_one chosen f))
unfolding lines_of blank_one
alike_file chosen f = alike_bytes chosen f.number f.base f.start f.bytes

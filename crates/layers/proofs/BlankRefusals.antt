-- A question that is accepted is accepted again on the blanked rule bytes.
use Prim.Native.Nat.{ℕ, suc, ◌<◌}
use mathlib.Core.Path.{◌≡◌, refl, sym, ap, subst, ◌∙◌}
use mathlib.Core.Logic.{inl, inr, ⊎_elim}
use mathlib.Core.Bool.{Bool, true, false, cond}
use mathlib.Core.List.Memᴰ
use mathlib.Core.List.{List, [], ◌∷◌, ◌++◌, cons≢nil, map, Memᴰ}
use native.Mathlib.Omega.{arith}
use native.Mathlib.Decide.{ℕ_discrete}
use lib.ListN.{length, take, drop, get_or}
use Rattle.rulefiles.specs.RuleFiles.{File, onto, split, has_bom, bom_length, files}
use Rattle.refusals.specs.Limits.{line_limit}
use Rattle.refusals.specs.Refusals.{Accepted}
use Rattle.questionrefusals.specs.Conditions.{last_end, BadLists, LongLine, IgnoreRefuses, AttributeRefuses}
use Rattle.layers.specs.Blanking.{Choice, overwritten, blanked_file, blanked}
use Rattle.layers.proofs.SpaceLines.{spaces, length-spaces}
use Rattle.layers.proofs.BlankBytes.{with_or_behind}
use Rattle.layers.proofs.BlankLines.{blank_lines, split-overwritten, bom-bytes, blank_one}
use Rattle.layers.proofs.BlankFiles.{Rising, ends_rising, length-rules, files-rules, zero_rules}

-- what refusal 2's condition leaves where it does not hold
lists_same : (path rules ends bases : List ℕ) → (BadLists path rules ends bases → ⊥) → length ends ≡ length bases
unfolding BadLists
lists_same path rules ends bases h = go (ℕ_discrete (length ends) (length bases))
  where
    go : Dec (length ends ≡ length bases) → length ends ≡ length bases
    go (yes e) = e
    go (no n) = absurd (h (inl n))

lists_rising : (path rules ends bases : List ℕ) → (BadLists path rules ends bases → ⊥) → Rising 0 ends (length rules)
unfolding BadLists
lists_rising path rules ends bases h = go (ℕ_discrete (last_end ends) (length rules))
  where
    go : Dec (last_end ends ≡ length rules) → Rising 0 ends (length rules)
    go (yes e) = ends_rising ends (length rules) (λ b. h (inr (inr (inl b)))) e
    go (no n) = absurd (h (inr (inr (inr (inl n)))))

-- Refusal 5: the lines are as long as before, in one file and in all.

module _ (chosen : ℕ → Bool) where
  blank_lengths : (n : ℕ) (ls : List (List ℕ)) → map length (blank_lines chosen n ls) ≡ map length ls
  blank_lengths n [] = refl
  blank_lengths n (l ∷ ls) = rw (long (chosen n), blank_lengths (suc n) ls)
    where
      long : (c : Bool) → length (cond c (spaces l) l) ≡ length l
      long true = length-spaces l
      long false = refl

  with_lengths : (s : List ℕ) → map length (split (overwritten chosen 1 s)) ≡ map length (split s)
  with_lengths s = ap (map length) (split-overwritten chosen 1 s) ∙ blank_lengths 1 (split s)

  -- a byte more in front of the first line
  abbrev longer : List ℕ → List ℕ
  longer [] = 1 ∷ []
  longer (n ∷ ns) = suc n ∷ ns

  onto_lengths : (b : ℕ) (ls : List (List ℕ)) → map length (onto b ls) ≡ longer (map length ls)
  onto_lengths b [] = refl
  onto_lengths b (l ∷ ls) = refl

  bom_lengths : (t : List ℕ) → map length (split (0xEF ∷ 0xBB ∷ 0xBF ∷ t)) ≡ longer (longer (longer (map length (split t))))
  unfolding split
  bom_lengths t =
      onto_lengths 0xEF (onto 0xBB (onto 0xBF (split t))) ∙ ap longer (onto_lengths 0xBB (onto 0xBF (split t)) ∙ ap longer (onto_lengths 0xBF (split t)))

  behind_lengths : (s : List ℕ) → map length (split (take (bom_length s) s ++ overwritten chosen 1 (drop (bom_length s) s))) ≡ map length (split s)
  unfolding bom_length
  behind_lengths s = go (has_bom s) refl
    where
      go : (b : Bool) → has_bom s ≡ b → map length (split (take (bom_length s) s ++ overwritten chosen 1 (drop (bom_length s) s))) ≡ map length (split s)
      go false e = rw e (with_lengths s)
      go true e =
          let w = bom-bytes s e in
          subst (λ (r : List ℕ). map length (split (take (bom_length r) r ++ overwritten chosen 1 (drop (bom_length r) r))) ≡ map length (split r)) (sym w.1)
          (bom_lengths (overwritten chosen 1 w.0) ∙ ap (λ (ns : List ℕ). longer (longer (longer ns))) (with_lengths w.0) ∙ sym (bom_lengths w.0))

  blanked_lengths : (bom : Bool) (s : List ℕ) → map length (split (blanked_file chosen bom s)) ≡ map length (split s)
  blanked_lengths bom s =
      ⊎_elim (λ w. ap (λ (r : List ℕ). map length (split r)) w.1 ∙ with_lengths s) (λ e. ap (λ (r : List ℕ). map length (split r)) e ∙ behind_lengths s) (with_or_behind chosen bom s)

same_lengths : (xs ys : List (List ℕ)) → map length xs ≡ map length ys → (l : List ℕ) → Memᴰ l xs → (r : List ℕ) × Memᴰ r ys × (length l ≡ length r)
same_lengths [] ys e l m = absurd (Memᴰ.not-nil m)
same_lengths (x ∷ xs) [] e l m = absurd (cons≢nil e)
same_lengths (x ∷ xs) (y ∷ ys) e l m =
    ⊎_elim (λ q. (y, Memᴰ.head refl, ap length q ∙ ap (λ (ns : List ℕ). get_or ns 0 0) e))
    (λ r. let w = same_lengths xs ys (ap (drop 1) e) l r in (w.0, Memᴰ.tail w.1, w.2)) (Memᴰ.cases_cons m)

long_files : (chosen : Choice) (fs : List File) (f : File) (l : List ℕ) → Memᴰ f (map (blank_one chosen) fs) → Memᴰ l (split f.bytes) → line_limit < length l
    → (g : File) × Memᴰ g fs × ((k : List ℕ) × Memᴰ k (split g.bytes) × (line_limit < length k))
unfolding blank_one
long_files chosen [] f l m k h = absurd (Memᴰ.not-nil m)
long_files chosen (x ∷ fs) f l m k h =
    ⊎_elim
    (λ e. let w = same_lengths (split (blanked_file (chosen.line x.number) (chosen.bom x.number) x.bytes)) (split x.bytes)
    (blanked_lengths (chosen.line x.number) (chosen.bom x.number) x.bytes) l (subst (λ (g : File). Memᴰ l (split g.bytes)) e k) in
    (x, Memᴰ.head refl, (w.0, w.1, omega (arith, w.2, h))))
    (λ r. let w = long_files chosen fs f l r k h in (w.0, Memᴰ.tail w.1, w.2))
    (Memᴰ.cases_cons m)

-- What an accepted question's lists are like.

module _ (path rules ends bases : List ℕ) (flags : ℕ) where
  bad_lists : Accepted (IgnoreRefuses path rules ends bases flags) → BadLists path rules ends bases → ⊥
  unfolding Accepted IgnoreRefuses
  bad_lists a b = a 2 (inr (inl (refl, b)))

  pub accepted_same : Accepted (IgnoreRefuses path rules ends bases flags) → length ends ≡ length bases
  accepted_same a = lists_same path rules ends bases (bad_lists a)

  pub accepted_rising : Accepted (IgnoreRefuses path rules ends bases flags) → Rising 0 ends (length rules)
  accepted_rising a = lists_rising path rules ends bases (bad_lists a)

  pub attribute_accepted : (name : List ℕ) → Accepted (AttributeRefuses path rules ends bases name flags) → Accepted (IgnoreRefuses path rules ends bases flags)
  unfolding Accepted AttributeRefuses
  attribute_accepted name a n c = a n (inl c)

module _ (path rules ends bases : List ℕ) (flags : ℕ) (chosen : Choice) where
  -- no condition arises
  refuses_before : (BadLists path rules ends bases → ⊥) → (n : ℕ) → IgnoreRefuses path (blanked chosen rules ends bases) ends bases flags n → IgnoreRefuses path rules ends bases flags n
  unfolding IgnoreRefuses BadLists LongLine
  refuses_before ok n c =
      let same = lists_same path rules ends bases ok in
      let rise = lists_rising path rules ends bases ok in
      let long = length-rules chosen rules ends bases same rise in
      ⊎_elim inl
      (λ c. inr (⊎_elim (λ b. inl (b.0, rw long at b.1))
      (λ c. inr (⊎_elim (λ b. inl (b.0, omega (arith, long, b.1)))
      (λ c. inr (⊎_elim (λ b. inl (b.0, zero_rules chosen rules ends bases b.1))
      (λ c. inr (⊎_elim (λ b. inl (
        b.0,
        long_files chosen (files rules ends bases) b.1.0 b.1.2.0 (subst (Memᴰ b.1.0) (files-rules chosen rules ends bases same rise) b.1.1) b.1.2.1 b.1.2.2,
      ))
      inr c)) c)) c)) c)) c

  pub ignore_again : Accepted (IgnoreRefuses path rules ends bases flags) → Accepted (IgnoreRefuses path (blanked chosen rules ends bases) ends bases flags)
  unfolding Accepted
  ignore_again a n c = a n (refuses_before (bad_lists path rules ends bases flags a) n c)

  pub attribute_again : (name : List ℕ) → Accepted (AttributeRefuses path rules ends bases name flags) → Accepted (AttributeRefuses path (blanked chosen rules ends bases) ends bases name flags)
  unfolding Accepted AttributeRefuses
  attribute_again name a n c = a n (⊎_elim (λ q. inl (refuses_before (bad_lists path rules ends bases flags (attribute_accepted path rules ends bases flags name a)) n q)) inr c)

-- The blanked rule bytes are as long as before, and the same lists cut the blanked files out of them.
use Prim.Native.Nat.{ℕ, suc, ◌+◌, ◌-◌, ◌≤◌, ◌<◌}
use mathlib.Core.Path.{◌≡◌, refl, sym, ap, subst, ◌∙◌}
use mathlib.Core.Logic.{⊎_elim}
use mathlib.Core.List.Memᴰ
use mathlib.Core.List.{List, [], ◌∷◌, ◌++◌, append_assoc, map, Memᴰ}
use native.Mathlib.Omega.{arith}
use lib.ListN.{length, take, drop, length-append, length-drop}
use lib.Seq.{length-take-le, take_at, drop_at}
use Rattle.rulefiles.specs.RuleFiles.{File, bytes_between, files_from, files, lines_of_all, ordered_lines}
use Rattle.questionrefusals.specs.Conditions.{EndBelow, last_end}
use Rattle.layers.specs.Blanking.{Choice, blanked_file, blanked_files, blanked}
use Rattle.layers.proofs.Kept.{Alike, alike_nil, alike_append}
use Rattle.layers.proofs.BlankBytes.{member-take, member-drop, length-blanked, zero_blanked}
use Rattle.layers.proofs.BlankLines.{blank_one, alike_file}

-- What refusal 2 leaves: from a start on the ends rise, and the last is the buffer's length.

abbrev pub Rising : ℕ → List ℕ → ℕ → Type 0
Rising start [] total = start ≡ total
Rising start (end ∷ ends) total = (start ≤ end) × Rising end ends total

rising : (start end total : ℕ) (ends : List ℕ) → start ≤ end → (EndBelow (end ∷ ends) → ⊥) → last_end (end ∷ ends) ≡ total → Rising start (end ∷ ends) total
unfolding EndBelow
rising start end total [] s h e = (s, e)
rising start end total (next ∷ ends) s h e =
    let q : next < end → ⊥ = λ l. h (0, omega arith, l) in
    (s, rising end next total ends (omega arith) (λ w. h (suc w.0, omega (arith, w.1), w.2)) e)

pub ends_rising : (ends : List ℕ) (total : ℕ) → (EndBelow ends → ⊥) → last_end ends ≡ total → Rising 0 ends total
ends_rising [] total h e = e
ends_rising (end ∷ ends) total h e = rising 0 end total ends (omega arith) h e

rising_le : (start total : ℕ) (ends : List ℕ) → Rising start ends total → start ≤ total
rising_le start total [] r = omega arith
rising_le start total (end ∷ ends) r = omega (arith, rising_le end total ends r.1, r.0)

length_part : (start end : ℕ) (rules : List ℕ) → start ≤ end → end ≤ length rules → length (bytes_between start end rules) ≡ end - start
unfolding bytes_between
length_part start end rules s e = length-take-le (end - start) (drop start rules) (rw (length-drop start rules) (omega arith))

zero_part : (start end : ℕ) (rules : List ℕ) → Memᴰ 0 (bytes_between start end rules) → Memᴰ 0 rules
unfolding bytes_between
zero_part start end rules m = member-drop start rules 0 (member-take (end - start) (drop start rules) 0 m)

first_part : (start end : ℕ) (before first rest : List ℕ) → length before ≡ start → length first ≡ end - start → bytes_between start end (before ++ (first ++ rest)) ≡ first
unfolding bytes_between
first_part start end before first rest b f = ap (take (end - start)) (drop_at before (first ++ rest) start b) ∙ take_at first rest (end - start) f

module _ (chosen : Choice) (rules : List ℕ) where
  -- a file blanked is as long as its part of the buffer
  length-file : (number start end : ℕ) → start ≤ end → end ≤ length rules → length (blanked_file (chosen.line number) (chosen.bom number) (bytes_between start end rules)) ≡ end - start
  length-file number start end s e = length-blanked (chosen.line number) (chosen.bom number) (bytes_between start end rules) ∙ length_part start end rules s e

  length-files : (number start : ℕ) (ends bases : List ℕ) → length ends ≡ length bases → Rising start ends (length rules)
      → start + length (blanked_files chosen (files_from number start rules ends bases)) ≡ length rules
  length-files number start [] bases h r = omega (arith, r)
  length-files number start (end ∷ ends) [] h r = absurd (omega (arith, h))
  length-files number start (end ∷ ends) (base ∷ bases) h r =
      let rest = length-files (suc number) end ends bases (omega (arith, h)) r.1 in
      let first = length-file number start end r.0 (rising_le end (length rules) ends r.1) in
      rw (length-append) (omega (arith, rest, first, r.0))

  -- the blanked files from a start on, behind any bytes up to that start
  files_again : (number start : ℕ) (ends bases before : List ℕ) → length ends ≡ length bases → Rising start ends (length rules) → length before ≡ start
      → files_from number start (before ++ blanked_files chosen (files_from number start rules ends bases)) ends bases ≡ map (blank_one chosen) (files_from number start rules ends bases)
  unfolding blank_one
  files_again number start [] bases before h r b = refl
  files_again number start (end ∷ ends) [] before h r b = refl
  files_again number start (end ∷ ends) (base ∷ bases) before h r b =
      let first : List ℕ = blanked_file (chosen.line number) (chosen.bom number) (bytes_between start end rules) in
      let rest : List ℕ = blanked_files chosen (files_from (suc number) end rules ends bases) in
      let long : length first ≡ end - start = length-file number start end r.0 (rising_le end (length rules) ends r.1) in
      let tail = files_again (suc number) end ends bases (before ++ first) (omega (arith, h)) r.1 (length-append before first ∙ omega (arith, long, b, r.0)) in
      ap {B = List File} (λ (s : List ℕ). record { number = number; base = base; start = start; bytes = s } ∷ files_from (suc number) end (before ++ (first ++ rest)) ends bases)
      (first_part start end before first rest b long)
      ∙ ap {B = List File} (λ (fs : List File). record { number = number; base = base; start = start; bytes = first } ∷ fs)
      (ap (λ (s : List ℕ). files_from (suc number) end s ends bases) (sym (append_assoc before first rest)) ∙ tail)

  -- no byte 0 arises
  zero_files : (number start : ℕ) (ends bases : List ℕ) → Memᴰ 0 (blanked_files chosen (files_from number start rules ends bases)) → Memᴰ 0 rules
  zero_files number start [] bases m = absurd (Memᴰ.not-nil m)
  zero_files number start (end ∷ ends) [] m = absurd (Memᴰ.not-nil m)
  zero_files number start (end ∷ ends) (base ∷ bases) m =
      ⊎_elim (λ a. zero_part start end rules (zero_blanked (chosen.line number) (chosen.bom number) (bytes_between start end rules) a)) (λ a. zero_files (suc number) end ends bases a)
      (Memᴰ.append_cases (blanked_file (chosen.line number) (chosen.bom number) (bytes_between start end rules)) m)

-- The whole buffer.

alike_files : (chosen : Choice) (fs : List File) → Alike chosen (lines_of_all fs) (lines_of_all (map (blank_one chosen) fs))
alike_files chosen [] = alike_nil
alike_files chosen (f ∷ fs) = alike_append (alike_file chosen f) (alike_files chosen fs)

module _ (chosen : Choice) (rules ends bases : List ℕ) where
  pub zero_rules : Memᴰ 0 (blanked chosen rules ends bases) → Memᴰ 0 rules
  unfolding blanked files
  zero_rules m = zero_files chosen rules 0 0 ends bases m

  module _ (h : length ends ≡ length bases) (r : Rising 0 ends (length rules)) where
    pub length-rules : length (blanked chosen rules ends bases) ≡ length rules
    unfolding blanked files
    length-rules = omega (arith, length-files chosen rules 0 0 ends bases h r)

    pub files-rules : files (blanked chosen rules ends bases) ends bases ≡ map (blank_one chosen) (files rules ends bases)
    unfolding blanked files
    files-rules = files_again chosen rules 0 0 ends bases [] h r refl

    pub alike_rules : Alike chosen (ordered_lines rules ends bases) (ordered_lines (blanked chosen rules ends bases) ends bases)
    unfolding ordered_lines
    alike_rules = subst (λ (fs : List File). Alike chosen (lines_of_all (files rules ends bases)) (lines_of_all fs)) (sym files-rules) (alike_files chosen (files rules ends bases))

-- A file's part by where its start and end lie.
use mathlib.Core.Path.{◌≡◌, refl, sym, ap, ◌∙◌}
use mathlib.Core.List.{List, [], ◌∷◌}
use Prim.Native.Nat.{ℕ, zero, suc, ◌-◌, ◌<◌, ◌≤◌}
use native.Mathlib.Nat.{sub-zero, zero-sub, suc-sub-suc}
use native.Mathlib.Omega.{arith}
use lib.ListN.{length, take, drop, length-drop, drop_of_length-le}
use lib.Seq.{take_all, take-nil}
use mathlib.Core.Logic.{◌⊎◌, inl, inr, ⊎_elim}
use Rattle.std.proofs.lemmas.Bool.{cases_lt}
use Rattle.std.specs.Prelude.{min}
use Rattle.std.specs.List.{slice_range}
use Rattle.rulefiles.specs.RuleFiles.{bytes_between}

pub part_none : (start end : ℕ) (s : List ℕ) → end ≤ start → [] ≡ bytes_between start end s
unfolding bytes_between
part_none start end s h = let e : end - start ≡ 0 = omega arith in rw e

pub part_past : (start end : ℕ) (s : List ℕ) → length s < start → [] ≡ bytes_between start end s
unfolding bytes_between
part_past start end s h = rw (drop_of_length-le s {i = start} (omega arith)) (sym (take-nil (end - start)))

pub part_rest : (start end : ℕ) (s : List ℕ) → length s < end → take (length s - start) (drop start s) ≡ bytes_between start end s
unfolding bytes_between
part_rest start end s h =
    take_all (length s - start) (drop start s) (simp length-drop (omega arith)) ∙ sym (take_all (end - start) (drop start s) (simp length-drop (omega arith)))

-- bytes from a start to an end are the bytes up to that end, from the start on
pub upto_part : (start end : ℕ) (s : List ℕ) → take (end - start) (drop start s) ≡ drop start (take end s)
upto_part zero end s = ap (λ (n : ℕ). take n s) (sub-zero end)
upto_part (suc start) zero [] = take-nil (zero - suc start)
upto_part (suc start) zero (x ∷ s) = ap (λ (n : ℕ). take n (drop start s)) (zero-sub (suc start))
upto_part (suc start) (suc end) [] = take-nil (suc end - suc start)
upto_part (suc start) (suc end) (x ∷ s) = ap (λ (n : ℕ). take n (drop start s)) (suc-sub-suc end start) ∙ upto_part start end s

pub part_upto : (start end : ℕ) (s : List ℕ) → bytes_between start end s ≡ drop start (take end s)
unfolding bytes_between
part_upto start end s = upto_part start end s

-- the part up to the end or the buffer's, whichever is before
module _ (start end m : ℕ) (s : List ℕ) (e : m ≡ min end (length s)) where
  pub part_got : slice_range s start m ≡ bytes_between start end s
  unfolding bytes_between
  part_got =
      ⊎_elim (λ (l : length s < end). let q : m ≡ length s = omega (arith, e, l) in rw q (part_rest start end s l))
      (λ (l : end ≤ length s). let q : m ≡ end = omega (arith, e, l) in rw q refl) (cases_lt (length s) end)

  -- where that is before the start, there is none
  pub part_lost : (m < start) ⊎ (length s < m) → [] ≡ bytes_between start end s
  part_lost (inr h) = absurd (omega (arith, e, h))
  part_lost (inl h) =
      ⊎_elim (λ (l : length s < start). part_past start end s l) (λ (l : start ≤ length s). part_none start end s (omega (arith, e, h, l)))
      (cases_lt (length s) start)

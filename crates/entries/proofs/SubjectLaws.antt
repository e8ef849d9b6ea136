-- An entry, as the lines of one file after another see it.
use Prim.Native.Nat.{ℕ, ◌<◌, ◌≤◌}
use native.Mathlib.Omega.{arith}
use mathlib.Core.Path.{◌≡◌, refl, sym, ap, ◌∙◌}
use mathlib.Core.Bool.{Bool, cond}
use mathlib.Core.List.{List}
use Rattle.std.specs.Prelude.{None, Some}
use lib.ListN.{length, drop}
use borrow.Author.Tests.{lt-ltb, le-ltb}
use Rattle.bytestrings.proofs.SliceLaws.{from, from-drop}
use Rattle.entries.specs.Entries.{Entry, Subject, against, applies, component_start, subject_of, in_file}
use Rattle.entries.proofs.ComponentLaws.{component-whole}

pub start_fits : (s : List ℕ) → component_start s ≤ length s
unfolding component_start
start_fits s = omega arith

pub subject-whole : (fold directory : Bool) (bytes : List ℕ) (at : ℕ) → at ≡ component_start bytes
    → against bytes (from at bytes) directory fold ≡ subject_of fold 0 (record { bytes = bytes; directory = directory })
unfolding subject_of
subject-whole fold directory bytes at e =
    ap (λ (c : List ℕ). against bytes c directory fold) (from-drop at bytes ∙ ap (λ (n : ℕ). drop n bytes) e ∙ sym (component-whole bytes))

-- a file applies, or not
module _ (base : ℕ) (s : Subject) where
  pub in_file_some : base < length s.rest → Some (against (from base s.rest) s.component s.directory s.fold) ≡ in_file base s
  unfolding in_file
  in_file_some h = rw (from-drop base s.rest, lt-ltb base (length s.rest) h)

  pub in_file_none : length s.rest ≤ base → None ≡ in_file base s
  unfolding in_file
  in_file_none h = rw (le-ltb base (length s.rest) h)

-- what the lines of a file with this base are matched against, if the file applies
pub in_file-subject : (fold : Bool) (base : ℕ) (e : Entry) → in_file base (subject_of fold 0 e) ≡ cond (applies base e) (Some (subject_of fold base e)) None
unfolding in_file subject_of applies
in_file-subject fold base e = refl

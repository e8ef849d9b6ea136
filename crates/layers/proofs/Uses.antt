-- Demand 3 in use: the ordered lines cut after any number of them, inside a file too.
use Prim.Native.Nat.{ℕ}
use mathlib.Core.Path.{sym}
use mathlib.Core.List.{List}
use lib.ListN.{take, drop, take-append-drop}
use Rattle.rulefiles.specs.RuleFiles.{Line, ordered_lines}
use Rattle.layers.specs.Parts.{Parted}
use Rattle.layers.specs.Claim.{Cut}
use Rattle.layers.proofs.Theorem.{layers_compose}

parted_after : (n : ℕ) (lines : List Line) → Parted lines (take n lines) (drop n lines)
parted_after n lines = record { whole = sym (take-append-drop n lines) }

pub cut_after : (path rules ends bases name : List ℕ) (flags n : ℕ) → Cut path rules ends bases name flags (take n (ordered_lines rules ends bases)) (drop n (ordered_lines rules ends bases))
cut_after path rules ends bases name flags n =
    (layers_compose path rules ends bases name flags).cuts (take n (ordered_lines rules ends bases)) (drop n (ordered_lines rules ends bases)) (parted_after n (ordered_lines rules ends bases))

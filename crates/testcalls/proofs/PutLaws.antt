-- What the stores leave is what `put` says.
use Prim.Native.Nat.{ℕ}
use native.Mathlib.Omega.{arith}
use mathlib.Core.Path.{◌≡◌, refl, sym, ap}
use mathlib.Core.Bool.{Bool, cond}
use mathlib.Core.List.{List, [], ◌∷◌, ◌++◌}
use Rattle.std.specs.Prelude.{None, Some}
use lib.ListN.{length, drop}
use borrow.Author.Tests.{le-leb}
use Rattle.brokenplaces.specs.BrokenPlaces.{broken_at}
use Rattle.testcalls.specs.Probes.{put, places, BrokenProbed}

abbrev picked : List ℕ → List ℕ → Bool → List ℕ
picked values held b = cond b (values ++ drop (length values) held) held

pub put_none : (held : List ℕ) → held ≡ put [] held
unfolding put
put_none held = sym (ap (picked [] held) (le-leb 0 (length held) (omega arith)))

-- where a pattern is not broken, and where it is
pub no_place : (pattern held : List ℕ) → broken_at pattern ≡ None → BrokenProbed pattern 0 held held
unfolding places
no_place pattern held e = record { numbered = rw e refl; written = rw e (put_none held) }

pub one_place : (pattern held after : List ℕ) (n : ℕ) → broken_at pattern ≡ Some n → after ≡ put (n ∷ []) held → BrokenProbed pattern 1 held after
unfolding places
one_place pattern held after n e h = record { numbered = rw e refl; written = rw e h }

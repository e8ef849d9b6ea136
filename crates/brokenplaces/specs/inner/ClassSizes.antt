-- How many bytes the code finds a class's members written with.
use Rattle.std.specs.Prelude.{ℕ, ◌+◌, ◌≤◌, ◌≡◌, Bool, ◌&&◌, List, eqb, get_or, drop, Option, None, Some}
use Rattle.bytestrings.specs.Text.{char}
use Rattle.classes.specs.Members.{Step, close, broken, member, until_close, Members}

-- the code's answer r for what stands next, which is not the closing `]`: none where it is broken, else the bytes that the member is written with
abbrev pub Sized : Option ℕ → Step → Type 0
Sized r close = ⊥
Sized r broken = r ≡ None
Sized r (member m n) = r ≡ Some n

-- the bytes of all members, the closing `]` included; none where they cannot be read
abbrev pub members_size : Option Members → Option ℕ
members_size None = None
members_size (Some r) = Some r.size

-- `[:` is next
abbrev pub starts_name : List ℕ → Bool
starts_name q = eqb (get_or q 0 0) (char "[") && eqb (get_or q 1 0) (char ":")

-- the place k, unless it lies before i, is that of the next `]` from the place i on; the end where there is none
abbrev pub NextClose : List ℕ → ℕ → ℕ → Type 0
NextClose q i k = i ≤ k → k ≡ i + until_close (drop i q)

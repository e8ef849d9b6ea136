-- What the code knows and finds while it reads the members of a class.
use Rattle.std.specs.Prelude.{ℕ, ◌+◌, ◌≤◌, ◌<◌, ◌≡◌, ◌||◌, List, drop, Option, None, Some}
use Rattle.bytestrings.specs.Text.{char}
use Rattle.classes.specs.Members.{byte, range, name, any_lists, Step, close, broken, member, name_at, Members}
use Rattle.classes.specs.declared.members.Next.{Next}
use Rattle.classes.specs.declared.members.Next.TheVariants.{Close, Broken, Byte, Range, Name, Plain}
use Rattle.classes.specs.declared.class.Tested.{Tested}

-- what the code finds next in a class, as the definitions have it
abbrev pub step_of : Next → Step
step_of Close = close
step_of Broken = broken
step_of (Byte b n) = member (byte b) n
step_of (Range a b n) = member (range a b) n
step_of (Name k n) = member (name k) n
step_of (Plain n) = member (byte (char "[")) 1

-- what the code knows on the way, of the places from i up to p, p left out: of a `[:` right before one of them "the inner `[` is a plain member"
unfoldable pub PlainTo : List ℕ → ℕ → ℕ → Type 0
PlainTo q i p = (j : ℕ) → i ≤ j → j < p → name_at (drop j q) ≡ member (byte (char "[")) 1

-- of how many places it knows so after a `Plain n`: of the n bytes after that `[:` and of the next `]`; after any other, of none
abbrev pub plain_places : Next → ℕ
plain_places Close = 0
plain_places Broken = 0
plain_places (Byte b n) = 0
plain_places (Range a b n) = 0
plain_places (Name k n) = 0
plain_places (Plain n) = n + 1

-- what the code finds on the way: whether a member lists x or y, with the members' size; none: broken
unfoldable pub scanned : ℕ → ℕ → Option Members → Option Tested
scanned x y None = None
scanned x y (Some r) = Some (record { accepts = any_lists r.list x || any_lists r.list y; size = r.size })

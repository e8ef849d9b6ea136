-- Document 01, "Patterns": "`[`, then perhaps `!` or `^` for "not", then members up to `]`".
use Rattle.std.specs.Prelude.{ℕ, zero, suc, pred, ◌+◌, ◌-◌, Bool, true, false, cond, not, ◌&&◌, ◌||◌, List, [], ◌∷◌, eqb, leb, length, get_or, take, drop, Option, None, Some}
use Rattle.bytestrings.specs.Text.{char}
use Rattle.bytestrings.specs.Bytes.{length_until, in_range}
use Rattle.bytestrings.specs.Letters.{folded}
use Rattle.classnames.specs.Names.{named, which_name}
use Rattle.classes.specs.declared.class.Tested.{Tested}

-- What each member lists.

-- "Members: a byte; `\x`; a range ..; one of the twelve names": a byte, escaped or not, a range's two ends, or a name's place among the twelve
pub data Member : Type 0 where
  byte : ℕ → Member
  range : ℕ → ℕ → Member
  name : ℕ → Member

-- a member lists the byte x. "A range written high to low still lists its first byte."
unfoldable pub lists : Member → ℕ → Bool
lists (byte b) x = eqb x b
lists (range a b) x = eqb x a || in_range a b x
lists (name k) x = named k x

-- one of the members lists the byte x
abbrev pub any_lists : List Member → ℕ → Bool
any_lists [] x = false
any_lists (m ∷ ms) x = lists m x || any_lists ms x

-- the class accepts the byte x: case is folded in "the list in a class before "not""
unfoldable pub class_accepts : Bool → Bool → List Member → ℕ → Bool
class_accepts fold false ms x = folded fold (any_lists ms) x
class_accepts fold true ms x = not (folded fold (any_lists ms) x)

-- How the members are read, from the left.

-- what stands next in a class: its closing `]`; nothing that can be read, and the pattern is *broken*, 01's term; or a member and the number of
-- bytes that it is written with
pub data Step : Type 0 where
  close : Step
  broken : Step
  member : Member → ℕ → Step

-- "any `\x`, `\]` too" as the end of a range: after b of n bytes, `-` and `\`
abbrev pub escaped_end : ℕ → ℕ → List ℕ → Step
escaped_end b n [] = broken
escaped_end b n (y ∷ q) = member (range b y) (n + 3)

-- after b of n bytes and `-`: "a next byte other than `]` (a `[` too)" ends a range
abbrev pub range_end : ℕ → ℕ → List ℕ → Step
range_end b n [] = member (byte b) n
range_end b n (y ∷ q) =
    cond (eqb y (char "]")) (member (byte b) n)
    (cond (eqb y (char "\\")) (escaped_end b n q)
    (member (range b y) (n + 2)))

-- the single member b of n bytes, or the range that it begins: "a range with `-` between a single member and a next byte".
-- "After a range or a name, `-` is plain": only here is a `-` looked for
unfoldable pub single : ℕ → ℕ → List ℕ → Step
single b n [] = member (byte b) n
single b n (y ∷ q) = cond (eqb y (char "-")) (range_end b n q) (member (byte b) n)

-- "`\x`": after `\`
abbrev pub escaped_member : List ℕ → Step
escaped_member [] = broken
escaped_member (y ∷ q) = single y 2 q

-- how many bytes stand before "the next `]`"
unfoldable pub until_close : List ℕ → ℕ
until_close q = length_until (λ y. eqb y (char "]")) q

-- "nothing stands between, or the byte before the `]` isn't `:`": after `[:`
abbrev pub no_name : List ℕ → Bool
no_name q = eqb (until_close q) 0 || not (eqb (get_or q (until_close q - 1) 0) (char ":"))

-- the bytes between `[:` and `:]`
abbrev pub name_of : List ℕ → List ℕ
name_of q = take (until_close q - 1) q

-- the name at the k-th place, written with n bytes; none: "a name outside the twelve, the empty name too, is broken"
abbrev pub name_step : ℕ → Option ℕ → Step
name_step n None = broken
name_step n (Some k) = member (name k) n

-- "After `[:` look for the next `]`: none, the pattern is broken; .. the inner `[` is a plain member and reading goes on at the `:`;
-- ..". A name's size is three bytes more than stand before the `]`: `[:` and that `]`
unfoldable pub name_at : List ℕ → Step
name_at q =
    cond (leb (length q) (until_close q)) broken
    (cond (no_name q) (member (byte (char "[")) 1)
    (name_step (until_close q + 3) (which_name (name_of q))))

-- after `[` among the members
unfoldable pub bracket_at : List ℕ → Step
bracket_at [] = member (byte (char "[")) 1
bracket_at (y ∷ q) = cond (eqb y (char ":")) (name_at q) (single (char "[") 1 (y ∷ q))

-- the next member, or the closing `]`: "a `]` as first member is a member". "No closing `]` is broken."
unfoldable pub next_member : Bool → List ℕ → Step
next_member first [] = broken
next_member first (x ∷ q) =
    cond (eqb x (char "]") && not first) close
    (cond (eqb x (char "\\")) (escaped_member q)
    (cond (eqb x (char "[")) (bracket_at q)
    (single x 1 q)))

-- the members of a class, and how many bytes they are written with up to the closing `]`, which counts
pub record Members : Type 0 where
  pub list : List Member
  pub size : ℕ

-- one byte more belongs to the member before
abbrev pub longer : Option Members → Option Members
longer None = None
longer (Some r) = Some (record { list = r.list; size = suc r.size })

-- one member more, whose first byte is counted here
abbrev pub and_member : Member → Option Members → Option Members
and_member m None = None
and_member m (Some r) = Some (record { list = m ∷ r.list; size = suc r.size })

-- what stood next and then the members after its n bytes, of which the first byte is passed already
abbrev pub members_after : Step → (ℕ → Option Members) → Option Members
members_after close rest = Some (record { list = []; size = 1 })
members_after broken rest = None
members_after (member m n) rest = and_member m (rest (pred n))

-- "members up to `]`", after the first k bytes, which belong to a member that was read; none: broken. `first`: no member was read yet
unfoldable pub members : List ℕ → ℕ → Bool → Option Members
members [] k first = None
members (x ∷ q) zero first = members_after (next_member first (x ∷ q)) (λ n. members q n false)
members (x ∷ q) (suc k) first = longer (members q k first)

-- a class after its `[`: whether it has "perhaps `!` or `^` for "not"", its members, and how many bytes it is written with after its `[`, its `]` counted
pub record Class : Type 0 where
  pub negated : Bool
  pub list : List Member
  pub size : ℕ

-- the class of n bytes before its members
abbrev pub class_of : Bool → ℕ → Option Members → Option Class
class_of neg n None = None
class_of neg n (Some r) = Some (record { negated = neg; list = r.list; size = n + r.size })

-- "perhaps `!` or `^` for "not""
abbrev pub not_sign : List ℕ → Bool
not_sign [] = false
not_sign (x ∷ q) = eqb x (char "!") || eqb x (char "^")

-- none: broken
unfoldable pub read_class : List ℕ → Option Class
read_class q = cond (not_sign q) (class_of true 1 (members (drop 1 q) 0 true)) (class_of false 0 (members q 0 true))

-- what the code answers for the class that was read: whether it accepts the byte x, with its size; none: broken
unfoldable pub tested : Bool → ℕ → Option Class → Option Tested
tested fold x None = None
tested fold x (Some c) = Some (record { accepts = class_accepts fold c.negated c.list x; size = c.size })

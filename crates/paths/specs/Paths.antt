-- Document 01, "When a question is turned away": the condition of refusal 1, in the table's words. Document 02 adds one to it (R-8).
use Rattle.std.specs.Prelude.{ℕ, ◌<◌, ◌≡◌, ◌⊎◌, length}
use mathlib.Core.List.{List, [], ◌∷◌, ◌++◌, Memᴰ}
use Rattle.bytestrings.specs.Text.{char, text}
use Rattle.refusals.specs.Limits.{path_limit}
use Rattle.refusals.specs.Refusals.{HoldsZero}

-- "`/` first, last or doubled"
abbrev pub SlashMisplaced : List ℕ → Type 0
SlashMisplaced path =
    ((after : List ℕ) × (path ≡ char "/" ∷ after))
    ⊎ (((before : List ℕ) × (path ≡ before ++ text "/"))
    ⊎ ((before : List ℕ) × (after : List ℕ) × (path ≡ before ++ char "/" ∷ char "/" ∷ after)))

-- a component starts after these bytes: at the path's start, or just after a `/`
abbrev pub Starts : List ℕ → Type 0
Starts before = (before ≡ []) ⊎ ((front : List ℕ) × (before ≡ front ++ text "/"))

-- a component ends before these bytes: at the path's end, or just before a `/`
abbrev pub Ends : List ℕ → Type 0
Ends after = (after ≡ []) ⊎ ((rest : List ℕ) × (after ≡ char "/" ∷ rest))

-- these bytes are a component of the path
pub record Component (path bytes : List ℕ) : Type 0 where
  pub before : List ℕ
  pub after : List ℕ
  pub stands : path ≡ before ++ bytes ++ after
  pub starts : Starts before
  pub ends : Ends after

-- "a component `.` or `..`"
abbrev pub DotComponent : List ℕ → Type 0
DotComponent path = Component path (text ".") ⊎ Component path (text "..")

-- 02, R-8: a byte "below 32" or "byte 127"
abbrev pub ControlByte : ℕ → Type 0
ControlByte b = (b < 32) ⊎ (b ≡ 127)

-- "any path byte below 32 and byte 127": one of the path's bytes is such a byte
abbrev pub HoldsControl : List ℕ → Type 0
HoldsControl path = (b : ℕ) × Memᴰ b path × ControlByte b

-- 1: "path empty, over 4,096 bytes, holding byte 0, with `/` first, last or doubled, or with a component `.` or `..`";
-- 02, R-8: it "now also covers any path byte below 32 and byte 127"
unfoldable pub BadPath : List ℕ → Type 0
BadPath path =
    (path ≡ [])
    ⊎ ((path_limit < length path)
    ⊎ (HoldsZero path
    ⊎ (SlashMisplaced path
    ⊎ (DotComponent path
    ⊎ HoldsControl path))))

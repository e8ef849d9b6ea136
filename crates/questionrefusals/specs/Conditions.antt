-- Document 01, "When a question is turned away": the conditions of refusals 2, 3 and 5, each in the table's words, and which conditions each question has.
-- 1 stands in paths (Paths), 6 in attributenames (Names), 4 and 9 in refusals (Refusals).
use Rattle.std.specs.Prelude.{ℕ, suc, ◌-◌, ◌<◌, ◌≡◌, ◌⊎◌, length, get_or}
use mathlib.Core.List.{List, [], ◌∷◌, Memᴰ}
use Rattle.bytestrings.specs.Text.{char}
use Rattle.rulefiles.specs.RuleFiles.{File, split, files}
use Rattle.refusals.specs.Limits.{files_limit, rules_limit, line_limit}
use Rattle.refusals.specs.Refusals.{HoldsZero, FlagsHigh}
use Rattle.attributenames.specs.Names.{BadName}
use Rattle.paths.specs.Paths.{BadPath}

-- "an end below the one before"
unfoldable pub EndBelow : List ℕ → Type 0
EndBelow ends = (i : ℕ) × (suc i < length ends) × (get_or ends (suc i) 0 < get_or ends i 0)

-- the last end; with no files, 0
abbrev pub last_end : List ℕ → ℕ
last_end [] = 0
last_end (end ∷ []) = end
last_end (end ∷ next ∷ ends) = last_end (next ∷ ends)

-- a base is "0" or "below the path's length just after a `/`"
abbrev pub GoodBase : List ℕ → ℕ → Type 0
GoodBase path base = (base ≡ 0) ⊎ ((base < length path) × (get_or path (base - 1) 0 ≡ char "/"))

-- "a base neither 0 nor below the path's length just after a `/`"
unfoldable pub BaseMisplaced : List ℕ → List ℕ → Type 0
BaseMisplaced path bases = (base : ℕ) × Memᴰ base bases × (GoodBase path base → ⊥)

-- 2: "the two lists differ in length; over 64 files; an end below the one before; last end not the buffer's length (no files: buffer not
-- empty); a base neither 0 nor below the path's length just after a `/`"
unfoldable pub BadLists : List ℕ → List ℕ → List ℕ → List ℕ → Type 0
BadLists path rules ends bases =
    (length ends ≡ length bases → ⊥)
    ⊎ ((files_limit < length ends)
    ⊎ (EndBelow ends
    ⊎ ((last_end ends ≡ length rules → ⊥)
    ⊎ BaseMisplaced path bases)))

-- 3: "rule bytes over 65,536"
abbrev pub RulesLong : List ℕ → Type 0
RulesLong rules = rules_limit < length rules

-- 5: "a line over 2,048 bytes, counted with BOM and CR but without its newline": the file's bytes are split as they are
unfoldable pub LongLine : List ℕ → List ℕ → List ℕ → Type 0
LongLine rules ends bases = (f : File) × Memᴰ f (files rules ends bases) × ((l : List ℕ) × Memᴰ l (split f.bytes) × (line_limit < length l))

-- What the ignore question is refused for: 1 to 5 and 9; the condition of 4 is `HoldsZero`
unfoldable pub IgnoreRefuses : List ℕ → List ℕ → List ℕ → List ℕ → ℕ → ℕ → Type 0
IgnoreRefuses path rules ends bases flags n =
    ((n ≡ 1) × BadPath path)
    ⊎ (((n ≡ 2) × BadLists path rules ends bases)
    ⊎ (((n ≡ 3) × RulesLong rules)
    ⊎ (((n ≡ 4) × HoldsZero rules)
    ⊎ (((n ≡ 5) × LongLine rules ends bases)
    ⊎ ((n ≡ 9) × FlagsHigh flags)))))

-- What the attribute question is refused for: the same, and 6
unfoldable pub AttributeRefuses : List ℕ → List ℕ → List ℕ → List ℕ → List ℕ → ℕ → ℕ → Type 0
AttributeRefuses path rules ends bases name flags n = IgnoreRefuses path rules ends bases flags n ⊎ ((n ≡ 6) × BadName name)

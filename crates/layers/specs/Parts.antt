-- Document 01, "The words of demand 3": parts of the ordered lines, and how the answers of two parts join.
use Rattle.std.specs.Prelude.{◌≡◌, Option}
use mathlib.Core.List.{List, [], ◌++◌, Memᴰ}
use Rattle.rulefiles.specs.RuleFiles.{Line}
use Rattle.rulefiles.specs.declared.Decision.{Decision}
use Rattle.rulefiles.specs.Decisions.{HasEffect, override, last_decision}

-- "Cut the ordered lines at any place, the ends included, into an earlier and a later part, as read and each line keeping its file, number and
-- directory": the lines are not read again
pub record Parted (lines earlier later : List Line) : Type 0 where
  pub whole : lines ≡ earlier ++ later
  -- "a cut may fall inside a file": nothing else is asked of the two parts

-- 01's *says anything*: "A part says anything of an entry if one of its applicable lines matches the entry, of an attribute if such a line also
-- names it: `!fill` says something." `effect` is the effect of a line on the entry, or on the attribute
unfoldable pub SaysAnything : {A : Type 0} → (Line → Option A) → List Line → Type 0
SaysAnything effect lines = (l : Line) × Memᴰ l lines × HasEffect effect l

-- The whole and its two parts, the earlier and the later. "A part's answer is what those rules give from its lines alone"
pub record Composes {A : Type 0} (effect : Line → Option A) (lines earlier later : List Line) : Type 0 where
  -- "the whole's answer .. is exactly the later part's if that says anything, else the earlier part's"
  pub if_later_says : SaysAnything effect later → last_decision effect lines ≡ last_decision effect later
  pub else_earlier : (SaysAnything effect later → ⊥) → last_decision effect lines ≡ last_decision effect earlier
  -- the same as one operation on the two answers
  pub whole : last_decision effect lines ≡ override (last_decision effect earlier) (last_decision effect later)
  -- "This joining is associative"
  pub associative : (a b c : Option (Decision A)) → override (override a b) c ≡ override a (override b c)
  -- "and an empty part changes nothing"
  pub empty_earlier : (a : Option (Decision A)) → override (last_decision effect []) a ≡ a
  pub empty_later : (a : Option (Decision A)) → override a (last_decision effect []) ≡ a

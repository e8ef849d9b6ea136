-- Document 01, "Ignore lines" and "Attribute lines": an entry's verdict, an attribute's state, and the rule from the top down.
use Rattle.std.specs.Prelude.{ℕ, Bool, true, false, cond, List, [], ◌∷◌, ◌++◌, eqb, length, Option, None, Some}
use Rattle.bytestrings.specs.Text.{char}
use Rattle.rulefiles.specs.RuleFiles.{Line}
use Rattle.rulefiles.specs.declared.Decision.{Decision}
use Rattle.rulefiles.specs.Decisions.{last_decision}
use Rattle.entries.specs.Entries.{Entry}
use Rattle.ignorelines.specs.declared.Verdict.{Verdict}
use Rattle.ignorelines.specs.declared.Verdict.TheVariants.{Ignored, Reincluded}
use Rattle.ignorelines.specs.IgnoreLines.{ignore_effect}
use Rattle.attributelines.specs.AttributeLines.{attribute_effect}
use Rattle.attributelines.specs.declared.State.{State}
use Rattle.answers.specs.Complete.{Complete, undecided, decided, stated}

-- "Its verdict is that of the last applicable matching line: ignored or, negated, re-included; else nothing said." This is 01's entry *looked at by
-- itself*, which "has its own verdict, whatever its parents have"
unfoldable pub verdict : Bool → List Line → Entry → Option (Decision Verdict)
verdict fold lines e = last_decision (ignore_effect fold e) lines

-- "The last applicable matching line that names the attribute decides"
unfoldable pub attribute_state : Bool → List ℕ → List Line → Entry → Option (Decision State)
attribute_state fold name lines e = last_decision (attribute_effect fold e name) lines

-- the parents in what follows these bytes: before each `/`, all that stands before it. "A parent counts as a directory."
abbrev pub parents_from : List ℕ → List ℕ → List Entry
parents_from before [] = []
parents_from before (b ∷ s) =
    cond (eqb b (char "/")) (record { bytes = before; directory = true } ∷ parents_from (before ++ b ∷ []) s) (parents_from (before ++ b ∷ []) s)

-- the path's parents, 01's "parent directories", "from the top down"
unfoldable pub parents : List ℕ → List Entry
parents path = parents_from [] path

-- the verdict is "ignored"
abbrev pub is_ignored : Verdict → Bool
is_ignored Ignored = true
is_ignored Reincluded = false

-- an entry with this verdict is ignored
abbrev pub ignores : Option (Decision Verdict) → Bool
ignores None = false
ignores (Some d) = is_ignored d.what

-- the answer that the verdict of an entry of n bytes gives: "the path's length, the file and the line"; "nothing said gives no numbers"
abbrev pub judged : ℕ → Option (Decision Verdict) → Complete
judged n None = undecided
judged n (Some d) = decided d.what n d.place

-- "The first ignored entry makes the path ignored, and the answer gives its length, file and line. If no parent is ignored, the path's own
-- verdict is the answer". "The verdict of a directory's own parent is settled first, from the top down": the parents in that order, then the path
abbrev pub top_down : (Entry → Option (Decision Verdict)) → List Entry → Entry → Complete
top_down v [] path = judged (length path.bytes) (v path)
top_down v (p ∷ ps) path = cond (ignores (v p)) (judged (length p.bytes) (v p)) (top_down v ps path)

-- 01's *visited*: "the parents from the top down to the first ignored one, and the path itself if no parent is ignored."
abbrev pub visited : (Entry → Option (Decision Verdict)) → List Entry → Entry → List Entry
visited v [] path = path ∷ []
visited v (p ∷ ps) path = p ∷ cond (ignores (v p)) [] (visited v ps path)

-- "The answer holds the state, .. with the file and line, or says that no line spoke."
abbrev pub state_answer : Option (Decision State) → Complete
state_answer None = undecided
state_answer (Some d) = stated d.what d.place

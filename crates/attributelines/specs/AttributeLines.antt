-- Document 01, "Attribute lines": the effect of one line on one attribute of one entry.
use Rattle.std.specs.Prelude.{ℕ, suc, ◌+◌, ◌-◌, Bool, true, false, not, cond, ◌||◌, ◌&&◌, List, [], ◌∷◌, eqb, ltb, length, take, drop, Option, None, Some}
use Rattle.bytestrings.specs.Text.{char, text, tab, carriage_return}
use Rattle.rulefiles.specs.RuleFiles.{Line}
use Rattle.rulefiles.specs.Decisions.{override}
use Rattle.attributenames.specs.Names.{good_name}
use Rattle.bytestrings.specs.Bytes.{same_bytes, begins_with}
use Rattle.entries.specs.Entries.{Entry, applies, Subject, subject_of, pattern_matches}
use Rattle.bytestrings.specs.Bytes.{first_is, has, length_until}
use Rattle.attributelines.specs.declared.State.{State}
use Rattle.attributelines.specs.declared.State.TheVariants.{Set, Unset, Value, Unspecified}

-- "Blanks are space, tab and CR."
unfoldable pub is_blank : ℕ → Bool
is_blank b = eqb b (char " ") || (eqb b tab || eqb b carriage_return)

-- the first byte is there and no blank
abbrev pub starts_token : List ℕ → Bool
starts_token [] = false
starts_token (b ∷ s) = not (is_blank b)

-- a token of a line: a longest row of bytes that are no blanks, and where it starts in the rule bytes
pub record Token : Type 0 where
  pub start : ℕ
  pub bytes : List ℕ

-- one byte more at the start of the first token
abbrev pub widened : ℕ → ℕ → List Token → List Token
widened at b [] = []
widened at b (w ∷ ws) = record { start = at; bytes = b ∷ w.bytes } ∷ ws

-- the tokens of a line's bytes that start at a place of the rule bytes. "Leading and trailing blanks go"
unfoldable pub tokens : ℕ → List ℕ → List Token
tokens at [] = []
tokens at (b ∷ s) =
    cond (is_blank b) (tokens (suc at) s) (cond (starts_token s) (widened at b (tokens (suc at) s)) (record { start = at; bytes = b ∷ [] } ∷ tokens (suc at) s))

-- the bytes before the first `=`, all where there is none
abbrev pub name_length : List ℕ → ℕ
name_length s = length_until (λ b. eqb b (char "=")) s

-- these bytes: `name` of `name=v`
unfoldable pub name_in : List ℕ → List ℕ
name_in s = take (name_length s) s

-- a *mention* (01: "on one line, the last mention"): an attribute's name, and the state that it gives
pub record Mention : Type 0 where
  pub name : List ℕ
  pub state : State

-- "`name` sets .. `name=v` gives value v, perhaps empty"; a value is "its start and length in the rule bytes"
unfoldable pub plain_mention : ℕ → List ℕ → Mention
plain_mention at w =
    record {
      name = name_in w;
      state = cond (has (char "=") w) (Value (record { start = at + name_length w + 1; length = length w - (name_length w + 1) })) Set;
    }

-- "`-name` unsets, `!name` makes unspecified .. after `-` or `!` an `=v` is ignored"
unfoldable pub mention : ℕ → List ℕ → Mention
mention at w =
    cond (first_is (char "-") w) (record { name = name_in (drop 1 w); state = Unset })
    (cond (first_is (char "!") w) (record { name = name_in (drop 1 w); state = Unspecified })
    (plain_mention at w))

-- no mention has a bad name: "any attribute on it has a bad name"
abbrev pub good_names : List Token → Bool
good_names [] = true
good_names (w ∷ ws) = good_name (mention w.start w.bytes).name && good_names ws

-- "begins .. with `[attr]` and at least one more byte": the definition of a macro
unfoldable pub definition : List ℕ → Bool
definition p = begins_with (text "[attr]") p && ltb (length (text "[attr]")) (length p)

-- "skip .. one beginning `#`"; "dropped whole if its pattern begins with `!` or `"`, or with `[attr]` and at least one more byte"
unfoldable pub pattern_dropped : List ℕ → Bool
pattern_dropped p = first_is (char "#") p || (first_is (char "!") p || (first_is (char "\"") p || definition p))

-- the state that a mention gives an attribute, if it names it
unfoldable pub state_for : List ℕ → Mention → Option State
state_for name m = cond (same_bytes m.name name) (Some m.state) None

-- "on one line, the last mention"
abbrev pub last_mention : List ℕ → List Token → Option State
last_mention name [] = None
last_mention name (w ∷ ws) = override (state_for name (mention w.start w.bytes)) (last_mention name ws)

-- the state that a pattern and the mentions after it give. "dropped whole .. if any attribute on it has a bad name"
unfoldable pub rule_state : Subject → List ℕ → List ℕ → List Token → Option State
rule_state subject attribute p ws =
    cond (pattern_dropped p) None (cond (good_names ws) (cond (pattern_matches subject p) (last_mention attribute ws) None) None)

-- the state that the tokens of a line give. "skip an empty line"; "The pattern runs to the next blank."
abbrev pub tokens_state : Subject → List ℕ → List Token → Option State
tokens_state subject attribute [] = None
tokens_state subject attribute (p ∷ ws) = rule_state subject attribute p.bytes ws

-- the state that the bytes of a line, at a place of the rule bytes, give an attribute
unfoldable pub line_state : Subject → List ℕ → ℕ → List ℕ → Option State
line_state subject attribute at bytes = tokens_state subject attribute (tokens at bytes)

-- the effect of a line on an attribute of an entry, if its file applies. "BOM and byte 10 as above": the lines are those of the ignore question
unfoldable pub attribute_effect : Bool → Entry → List ℕ → Line → Option State
attribute_effect fold e attribute l =
    cond (applies l.base e) (line_state (subject_of fold l.base e) attribute l.start l.bytes) None

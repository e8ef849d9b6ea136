-- Document 01, "Ignore lines": an entry, and when the pattern of a line matches it. Attribute lines: "Patterns match as for ignore lines".
use Rattle.std.specs.Prelude.{ℕ, ◌-◌, Bool, not, cond, ◌&&◌, ◌||◌, List, [], ◌∷◌, ltb, length, drop, Option, None, Some}
use Rattle.bytestrings.specs.Bytes.{first_is, last_is, has, without_last, is_empty}
use Rattle.bytestrings.specs.Text.{char}
use Rattle.patterns.specs.MatchTest.{matches_test}
use Rattle.entries.specs.declared.subject.Subject.{Subject as LentSubject}

-- "An entry is the path or one of its parent directories", with whether it is a directory
pub record Entry : Type 0 where
  pub bytes : List ℕ
  pub directory : Bool

-- "the last component": what follows the last `/`
abbrev pub last_component : List ℕ → List ℕ
last_component [] = []
last_component (x ∷ s) = cond (has (char "/") (x ∷ s)) (last_component s) (x ∷ s)

-- where the last component starts
unfoldable pub component_start : List ℕ → ℕ
component_start s = length s - length (last_component s)

-- "One last `/` goes and means "directories only"."
abbrev pub without_last_slash : List ℕ → List ℕ
without_last_slash p = cond (last_is (char "/") p) (without_last p) p

-- "one first `/` goes"
abbrev pub without_first_slash : List ℕ → List ℕ
without_first_slash p = cond (first_is (char "/") p) (drop 1 p) p

-- "A file applies to a path or directory of n bytes only if its base is less than n."
unfoldable pub applies : ℕ → Entry → Bool
applies base e = ltb base (length e.bytes)

-- What the pattern of a line is matched against: the rest of an entry, which is "the path with the rule file's directory cut off its front";
-- "the last component"; whether the entry is a directory; and whether case is folded
pub record Subject : Type 0 where
  pub rest : List ℕ
  pub component : List ℕ
  pub directory : Bool
  pub fold : Bool

-- the four, in the order in which the code's struct has them
abbrev pub against : List ℕ → List ℕ → Bool → Bool → Subject
against rest component directory fold = record { rest = rest; component = component; directory = directory; fold = fold }

-- the subject that the code passes
abbrev pub subject_in : LentSubject → Subject
subject_in s = against s.rest.now s.component.now s.directory s.fold

-- an entry, to be matched by the lines of a file with this base: "when an entry is judged, "the path" in the matching rule above is that entry"
unfoldable pub subject_of : Bool → ℕ → Entry → Subject
subject_of fold base e = against (drop base e.bytes) (last_component e.bytes) e.directory fold

-- an entry that the lines of a file at the top are matched against, to be matched by those of a file with this base, if that file applies
unfoldable pub in_file : ℕ → Subject → Option Subject
in_file base s = cond (ltb base (length s.rest)) (Some (against (drop base s.rest) s.component s.directory s.fold)) None

-- the same, as the code passes it
abbrev pub subjects_in : Option LentSubject → Option Subject
subjects_in None = None
subjects_in (Some s) = Some (subject_in s)

-- A pattern without its last `/`. "If a `/` is left anywhere, the pattern is anchored: one first `/` goes, and it is matched in path mode
-- against" the rest. "Otherwise it is matched without path mode against the last component." "An empty pattern matches nothing."
-- (proofs/Meaning.antt says the same by the relation `Matches`.)
unfoldable pub bare_matches : Subject → List ℕ → Bool
bare_matches subject p =
    not (is_empty (without_first_slash p))
    && matches_test (record { path = has (char "/") p; fold = subject.fold }) (without_first_slash p) (cond (has (char "/") p) subject.rest subject.component)

-- a line's pattern, its `!` gone. "One last `/` goes and means "directories only"."
unfoldable pub pattern_matches : Subject → List ℕ → Bool
pattern_matches subject p = (not (last_is (char "/") p) || subject.directory) && bare_matches subject (without_last_slash p)

-- Document 01, "Frames that must come out right": P1 to P12, and P13 of document 02 (R-2), "proved facts about the written rules: a
-- single list with one claim covering it". R-14: "P1 becomes broken at 3 in all modes".
use Prim.Native.String.{String}
use Rattle.std.specs.Prelude.{cond, List, [], ◌∷◌}
use Rattle.bytestrings.specs.Text.{text}
use Rattle.wildmatch.specs.Answers.{Due}
use Rattle.patterns.specs.declared.Mode.{Mode}
use Rattle.wildmatch.specs.declared.Answer.{Answer}
use Rattle.wildmatch.specs.declared.Answer.TheVariants.{Unmatched, Matched, Broken}

-- a row of 01's table: its number, a text, a pattern, and the answers: path, path+fold, plain, plain+fold. Where the table has 1, it is `Matched`, where 0,
-- `Unmatched`; only P1 has another answer now (R-14). A `\\` is one `\`
pub data Frame : Type 0 where
  frame : String → String → String → Answer → Answer → Answer → Answer → Frame

-- | | Text | Pattern | path | path+fold | plain | plain+fold |
unfoldable pub frames : List Frame
frames =
    frame "P1" "foo\\" "foo\\" (Broken 3) (Broken 3) (Broken 3) (Broken 3)
    ∷ frame "P2" "a]b" "a[]]b" Matched Matched Matched Matched
    ∷ frame "P3" "foo/baz/bar" "foo**bar" Unmatched Unmatched Matched Matched
    ∷ frame "P4" "foo/baz/bar" "foo/**/**/bar" Matched Matched Unmatched Unmatched
    ∷ frame "P5" "foo/bar" "foo/**/bar" Matched Matched Unmatched Unmatched
    ∷ frame "P6" "foo" "**/foo" Matched Matched Unmatched Unmatched
    ∷ frame "P7" "deep/foo/bar/baz/" "**/bar/*" Unmatched Unmatched Matched Matched
    ∷ frame "P8" "deep/foo/bar/baz/" "**/bar/**" Matched Matched Matched Matched
    ∷ frame "P9" "foo/bar" "foo[/]bar" Unmatched Unmatched Matched Matched
    ∷ frame "P10" "A" "[a-z]" Unmatched Matched Unmatched Matched
    ∷ frame "P11" "" "" Matched Matched Matched Matched
    ∷ frame "P12" "ten" "**[!ten]" Unmatched Unmatched Unmatched Unmatched
    ∷ frame "P13" "a/x/y/b" "a/***/b" Matched Matched Matched Matched
    ∷ []

-- the answer that the table gives for a frame in a mode
abbrev pub expected : Frame → Mode → Answer
expected (frame n t p a b c d) m = cond m.path (cond m.fold b a) (cond m.fold d c)

-- of each frame, in each mode, the answer that the table gives is due. The one claim is `AllHold frames` (proofs/FramesHold.antt)
abbrev pub AllHold : List Frame → Type 0
AllHold [] = Unit {0}
AllHold (frame n t p a b c d ∷ fs) = ((m : Mode) → Due m (text p) (text t) (expected (frame n t p a b c d) m)) × AllHold fs

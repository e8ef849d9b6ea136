-- P1 to P13 hold: one claim over the list of specs/Frames.antt, by the test that decides the relation.
use Prim.Native.Nat.{ℕ}
use mathlib.Core.Path.{◌≡◌, refl, sym, ap, ◌∙◌}
use mathlib.Core.Bool.{Bool, true, false, not, ◌&&◌, false≢true}
use mathlib.Core.List.{List, [], ◌∷◌}
use Rattle.std.proofs.lemmas.Bool.{and_parts}
use Rattle.std.specs.Prelude.{Option, None, Some}
use lib.Dec.{eqb}
use borrow.Author.Tests.{eqb-true, not-true}
use Rattle.bytestrings.specs.Text.{text}
use Rattle.bytestrings.specs.Letters.{folded}
use Rattle.classnames.specs.Names.{table, names, spans, named, which_name}
use Rattle.bytestrings.specs.Bytes.{same_bytes}
use Rattle.classes.specs.Members.{lists, class_accepts, single, until_close, name_at, bracket_at, next_member, members, read_class}
use Rattle.patterns.specs.Patterns.{stars, starts_slash, component_ends, crosses, reach_of, read_run, read_bracket, read_item, items_from}
use Rattle.brokenplaces.specs.BrokenPlaces.{broken_from, broken_at}
use Rattle.patterns.specs.Sharing.{inside, accepts}
use Rattle.patterns.specs.MatchTest.{tail_matches, matches_test}
use Rattle.wildmatch.specs.Answers.{Due}
use Rattle.patterns.proofs.Meaning.{test_decides}
use Rattle.patterns.specs.declared.Mode.{Mode}
use Rattle.wildmatch.specs.declared.Answer.{Answer}
use Rattle.wildmatch.specs.declared.Answer.TheVariants.{Unmatched, Matched, Broken}
use Rattle.wildmatch.specs.Frames.{Frame, frame, frames, expected, AllHold}

-- Whether an answer is due, computed from the place and the test.
abbrev is_due : Answer → Option ℕ → Bool → Bool
is_due Unmatched None b = not b
is_due Unmatched (Some n) b = false
is_due Matched o b = b
is_due (Broken k) None b = false
is_due (Broken k) (Some n) b = eqb n k

-- The test of one frame in one mode, computed.
abbrev agrees : Frame → Bool → Bool → Bool
agrees (frame n t p a b c d) path fold =
    is_due (expected (frame n t p a b c d) (record { path = path; fold = fold })) (broken_at (text p)) (matches_test (record { path = path; fold = fold }) (text p) (text t))

abbrev all_agree : List Frame → Bool
all_agree [] = true
all_agree (f ∷ fs) = (agrees f true true && (agrees f true false && (agrees f false true && agrees f false false))) && all_agree fs

due_by : (m : Mode) (p t : List ℕ) (a : Answer) → is_due a (broken_at p) (matches_test m p t) ≡ true → Due m p t a
unfolding Due
due_by m p t a e = go a (broken_at p) refl e
  where
    go : (a : Answer) (o : Option ℕ) → broken_at p ≡ o → is_due a o (matches_test m p t) ≡ true → Due m p t a
    go Unmatched None q e = (q, λ w. absurd (false≢true (sym (not-true _ e) ∙ (test_decides m p t).1 w)))
    go Unmatched (Some n) q e = absurd (false≢true e)
    go Matched o q e = (test_decides m p t).0 e
    go (Broken k) None q e = absurd (false≢true e)
    go (Broken k) (Some n) q e = q ∙ ap Some (eqb-true n k e)

holds_by : (f : Frame) (path fold : Bool) → (agrees f true true && (agrees f true false && (agrees f false true && agrees f false false))) ≡ true → agrees f path fold ≡ true
holds_by f true true e = (and_parts (agrees f true true) _ e).0
holds_by f true false e = (and_parts (agrees f true false) _ (and_parts (agrees f true true) _ e).1).0
holds_by f false true e = (and_parts (agrees f false true) _ (and_parts (agrees f true false) _ (and_parts (agrees f true true) _ e).1).1).0
holds_by f false false e = (and_parts (agrees f false true) _ (and_parts (agrees f true false) _ (and_parts (agrees f true true) _ e).1).1).1

all_hold : (fs : List Frame) → all_agree fs ≡ true → AllHold fs
all_hold [] e = tt
all_hold (frame n t p a b c d ∷ fs) e =
    let h = and_parts _ (all_agree fs) e in (
      λ m. due_by m (text p) (text t) (expected (frame n t p a b c d) m) (holds_by (frame n t p a b c d) m.path m.fold h.0),
      all_hold fs h.1,
    )

-- the claim
pub frames_hold : AllHold frames
unfolding frames folded table names spans named same_bytes which_name lists class_accepts single until_close name_at bracket_at next_member members read_class stars starts_slash
    component_ends crosses reach_of read_run read_bracket read_item items_from broken_from inside accepts tail_matches matches_test
frames_hold = all_hold frames refl

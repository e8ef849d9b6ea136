-- What specs/Entries.antt computes, by the relation `Matches`: the text can be shared out among the pattern's items.
use Prim.Native.Nat.{ℕ}
use mathlib.Core.Path.{◌≡◌, refl}
use mathlib.Core.Logic.{◌↔◌}
use mathlib.Core.Bool.{Bool, true, false, not, cond, ◌&&◌, ◌||◌, false≢true}
use mathlib.Core.List.{List, [], ◌∷◌, cons≢nil}
use Rattle.std.proofs.lemmas.Bool.{and_parts}
use Rattle.bytestrings.specs.Text.{char}
use Rattle.patterns.specs.Sharing.{Matches}
use Rattle.patterns.specs.MatchTest.{matches_test}
use Rattle.patterns.proofs.Meaning.{test_decides}
use Rattle.patterns.specs.declared.Mode.{Mode}
use Rattle.bytestrings.specs.Bytes.{last_is, has, is_empty}
use Rattle.entries.specs.Entries.{without_last_slash, without_first_slash, bare_matches, pattern_matches, Subject}

-- a pattern without its last `/`: it is not empty, and matches the rest in path mode where a `/` is left, else the component in plain mode
abbrev pub BareMatches : Subject → List ℕ → Type 0
BareMatches subject p =
    (without_first_slash p ≡ [] → ⊥) × Matches (record { path = has (char "/") p; fold = subject.fold }) (without_first_slash p) (cond (has (char "/") p) subject.rest subject.component)

full : (l : List ℕ) → not (is_empty l) ≡ true → l ≡ [] → ⊥
full [] e h = false≢true e
full (x ∷ l) e h = cons≢nil h

filled : (l : List ℕ) → (l ≡ [] → ⊥) → not (is_empty l) ≡ true
filled [] h = absurd (h refl)
filled (x ∷ l) h = refl

both : {a b : Bool} → a ≡ true → b ≡ true → (a && b) ≡ true
both e h = rw (e, h)

pub bare_means : (subject : Subject) (p : List ℕ) → (bare_matches subject p ≡ true) ↔ BareMatches subject p
unfolding bare_matches
bare_means subject p =
    let m : Mode = record { path = has (char "/") p; fold = subject.fold } in
    let t : List ℕ = cond (has (char "/") p) subject.rest subject.component in
    let d = test_decides m (without_first_slash p) t in (
      λ e. let s = and_parts (not (is_empty (without_first_slash p))) (matches_test m (without_first_slash p) t) e in (full (without_first_slash p) s.0, d.0 s.1),
      λ h. both (filled (without_first_slash p) h.0) (d.1 h.1),
    )

allowed : (a b : Bool) → (not a || b) ≡ true → a ≡ true → b ≡ true
allowed true b e h = e
allowed false b e h = absurd (false≢true h)

allows : (a b : Bool) → (a ≡ true → b ≡ true) → (not a || b) ≡ true
allows true b h = h refl
allows false b h = refl

-- the pattern of a line: where it ends in `/`, of directories only
pub pattern_means : (subject : Subject) (p : List ℕ)
    → (pattern_matches subject p ≡ true) ↔ ((last_is (char "/") p ≡ true → subject.directory ≡ true) × BareMatches subject (without_last_slash p))
unfolding pattern_matches
pattern_means subject p =
    let d = bare_means subject (without_last_slash p) in (
      λ e. let s = and_parts (not (last_is (char "/") p) || subject.directory) (bare_matches subject (without_last_slash p)) e in (allowed (last_is (char "/") p) subject.directory s.0, d.0 s.1),
      λ h. both (allows (last_is (char "/") p) subject.directory h.0) (d.1 h.1),
    )

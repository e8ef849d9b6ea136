-- A line of spaces has no effect, in either question.
use Prim.Native.Nat.{ℕ, suc}
use mathlib.Core.Path.{◌≡◌, refl, sym, ap, ◌∙◌}
use mathlib.Core.Bool.{Bool, true, false, cond}
use mathlib.Core.List.{List, [], ◌∷◌}
use Rattle.std.specs.Prelude.{Option, None}
use lib.ListN.{length}
use Rattle.bytestrings.specs.Text.{char, carriage_return}
use Rattle.rulefiles.specs.RuleFiles.{Line}
use Rattle.entries.specs.Entries.{Entry, applies, Subject, subject_of, pattern_matches, bare_matches}
use Rattle.bytestrings.specs.Bytes.{last_is}
use Rattle.ignorelines.specs.IgnoreLines.{without_cr, skipped, space_before, kept, stripped, without_not, rule_effect, line_effect, ignore_effect}
use Rattle.ignorelines.proofs.LineLaws.{rule_empty}
use Rattle.attributelines.specs.AttributeLines.{is_blank, tokens, line_state, attribute_effect}

-- as many spaces as bytes
abbrev pub spaces : List ℕ → List ℕ
spaces [] = []
spaces (b ∷ s) = char " " ∷ spaces s

pub length-spaces : (s : List ℕ) → length (spaces s) ≡ length s
length-spaces [] = refl
length-spaces (b ∷ s) = ap suc (length-spaces s)

cond_none : {A : Type 0} (b : Bool) (o : Option A) → o ≡ None → cond b o None ≡ None
cond_none true o e = e
cond_none false o e = refl

none_cond : {A : Type 0} (b : Bool) (o : Option A) → o ≡ None → cond b None o ≡ None
none_cond true o e = refl
none_cond false o e = e

ends_space : (s : List ℕ) → last_is carriage_return (spaces s) ≡ false
ends_space [] = refl
ends_space (b ∷ []) = refl
ends_space (b ∷ c ∷ s) = ends_space (c ∷ s)

kept_space : (s : List ℕ) → kept false (spaces s) ≡ 0
unfolding kept
kept_space [] = refl
kept_space (b ∷ s) = ap space_before (kept_space s)

strip_space : (s : List ℕ) → stripped (without_cr (spaces s)) ≡ []
unfolding stripped without_cr
strip_space s = rw (ends_space s, kept_space s)

-- nothing is left of a line of spaces
bytes_space : (subject : Subject) (s : List ℕ) → line_effect subject (spaces s) ≡ None
unfolding line_effect
bytes_space subject s =
    none_cond (skipped (without_cr (spaces s))) (rule_effect subject (stripped (without_cr (spaces s))))
    (ap (rule_effect subject) (strip_space s) ∙ sym (rule_empty subject [] refl))

pub ignore_space : (fold : Bool) (e : Entry) (l : Line) (s : List ℕ) → l.bytes ≡ spaces s → ignore_effect fold e l ≡ None
unfolding ignore_effect
ignore_space fold e l s h = rw h (cond_none (applies l.base e) _ (bytes_space (subject_of fold l.base e) s))

-- it has no tokens
tokens_space : (at : ℕ) (s : List ℕ) → tokens at (spaces s) ≡ []
unfolding tokens is_blank
tokens_space at [] = refl
tokens_space at (b ∷ s) = tokens_space (suc at) s

pub attribute_space : (fold : Bool) (e : Entry) (attribute : List ℕ) (l : Line) (s : List ℕ) → l.bytes ≡ spaces s → attribute_effect fold e attribute l ≡ None
unfolding attribute_effect line_state
attribute_space fold e attribute l s h = rw (h, tokens_space l.start s) (cond_none (applies l.base e) None refl)

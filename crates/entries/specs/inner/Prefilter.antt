-- What the prefilter, the quick tests of last and first bytes before the engine is asked, rules out.
use Rattle.std.specs.Prelude.{ℕ, ◌-◌, ◌≡◌, Bool, true, false, not, ◌&&◌, List, eqb, length, get_or}
use Rattle.bytestrings.specs.Letters.{folded}
use Rattle.patterns.specs.MatchTest.{matches_test}
use Rattle.bytestrings.specs.Bytes.{is_empty}
use Rattle.entries.specs.Entries.{bare_matches, Subject}

-- the text's last byte is one that the literal c accepts
unfoldable pub end_accepted : Bool → ℕ → List ℕ → Bool
end_accepted fold c t = not (is_empty t) && folded fold (λ y. eqb y c) (get_or t (length t - 1) 0)

-- where the answer is yes, the pattern does not match the one of rest and component that it is matched against
unfoldable pub Excludes : Subject → List ℕ → Bool → Type 0
Excludes subject p r = r ≡ true → bare_matches subject p ≡ false

-- where the answer is yes, the pattern does not match the text, in path mode or without it
unfoldable pub ExcludesText : Bool → List ℕ → List ℕ → Bool → Type 0
ExcludesText fold p t r = r ≡ true → (path : Bool) → matches_test (record { path = path; fold = fold }) p t ≡ false

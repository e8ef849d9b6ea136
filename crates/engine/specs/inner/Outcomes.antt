-- What the outcomes of the private matchers mean. A matcher that fails also answers where else it would fail, so that the run before it
-- need not try there: this bounds the work. git has the same answers: no match, abort to the last `**`, abort all.
use Rattle.std.specs.Prelude.{ℕ, ◌+◌, ◌-◌, ◌<◌, ◌≤◌, ◌≡◌, ◌⊎◌, Bool, true, false, cond, List, length, get_or, drop}
use Rattle.bytestrings.specs.Text.{char}
use Rattle.patterns.specs.Sharing.{inside}
use Rattle.patterns.specs.MatchTest.{tail_matches}
use Rattle.patterns.specs.inner.Tails.{after_at, within_then, slash_then}
use Rattle.patterns.specs.declared.Mode.{Mode}
use Rattle.engine.specs.declared.matcher.Outcome.{Outcome}
use Rattle.engine.specs.declared.matcher.Outcome.TheVariants.{Matched, NoMatch, AbortToStarStar, AbortAll}
use Rattle.engine.specs.declared.runkind.RunKind.{RunKind}
use Rattle.engine.specs.declared.runkind.RunKind.TheVariants.{Within, All, ToSlash}
use Rattle.engine.specs.declared.segment.Stop.{Stop}
use Rattle.engine.specs.declared.segment.Stop.TheVariants.{Whole, Mismatch, TooShort, Run}

-- Which places of a text something before it could reach: its start alone, a run within a component, one that ends after `/`, any run.
pub data RunBefore : Type 0 where
  no_run : RunBefore
  run-within : RunBefore
  run-to_slash : RunBefore
  any_run : RunBefore

-- place k is one of these
abbrev pub May : Mode → RunBefore → List ℕ → ℕ → Type 0
May m no_run t k = k ≡ 0
May m run-within t k = (j : ℕ) → j < k → inside m (get_or t j 0) ≡ true
May m run-to_slash t k = (k ≡ 0) ⊎ (get_or t (k - 1) 0 ≡ char "/")
May m any_run t k = Unit {0}

-- f fails at every place that can be reached
unfoldable pub Never : Mode → RunBefore → (List ℕ → Bool) → List ℕ → Type 0
Never m s f t = (k : ℕ) → k ≤ length t → May m s t k → f (drop k t) ≡ false

-- after a byte `/` the widest run that can stand before is one that ends there
abbrev pub run_before : Bool → Outcome → RunBefore
run_before after Matched = no_run
run_before after NoMatch = no_run
run_before after AbortToStarStar = run-within
run_before after AbortAll = cond after run-to_slash any_run

-- what an outcome means for f and a text
unfoldable pub Means : Mode → Bool → (List ℕ → Bool) → List ℕ → Outcome → Type 0
Means m after f t Matched = f t ≡ true
Means m after f t NoMatch = Never m (run_before after NoMatch) f t
Means m after f t AbortToStarStar = Never m (run_before after AbortToStarStar) f t
Means m after f t AbortAll = Never m (run_before after AbortAll) f t

-- a run never just fails
unfoldable pub MeansRun : Mode → Bool → (List ℕ → Bool) → List ℕ → Outcome → Type 0
MeansRun m after f t r = Means m after f t r × (r ≡ NoMatch → ⊥)

-- what an outcome means for the pattern p from its start, and, where it slides, of a run within a component and then p
unfoldable pub MeansItems : Mode → Bool → Bool → List ℕ → List ℕ → Outcome → Type 0
MeansItems m after false p t r = Means m after (tail_matches m after p) t r
MeansItems m after true p t r = MeansRun m false (within_then m p) t r

-- what the loop over items of one byte finds of the pattern p, whatever the byte before it
unfoldable pub Stops : Mode → List ℕ → List ℕ → Stop → Type 0
Stops m p t Whole = (after : Bool) → Means m after (tail_matches m after p) t Matched
Stops m p t Mismatch = (after : Bool) → Means m after (tail_matches m after p) t NoMatch
Stops m p t TooShort = (after : Bool) → Means m after (tail_matches m after p) t AbortAll
Stops m p t (Run i j) =
    (i < length p) × (j ≤ length t) × (get_or p i 0 ≡ char "*")
    × ((after : Bool) (r : Outcome) → Means m (after_at after p i) (tail_matches m (after_at after p i) (drop i p)) (drop j t) r → Means m after (tail_matches m after p) t r)

-- n is just after the next `/` of t from place k on, or past the end where there is none
unfoldable pub NextSlash : List ℕ → ℕ → ℕ → Type 0
NextSlash t k n =
    (k < n) × (n ≤ length t + 1) × (n ≤ length t → get_or t (n - 1) 0 ≡ char "/")
    × ((j : ℕ) → k < j → j < n → j ≤ length t → get_or t (j - 1) 0 ≡ char "/" → ⊥)

-- k is the first place where a run that crosses to after a `/` may end: the start where `here`
unfoldable pub FirstPlace : Bool → List ℕ → ℕ → Type 0
FirstPlace true t k = k ≡ 0
FirstPlace false t k = NextSlash t 0 k

-- from place k to place n every byte is inside, and P holds of it
unfoldable pub Passed : Mode → (ℕ → Type 0) → List ℕ → ℕ → ℕ → Type 0
Passed m P t k n = (k ≤ n) × (n ≤ length t) × ((j : ℕ) → j < n → k ≤ j → (inside m (get_or t j 0) ≡ true) × P j)

-- a run within a component may go from place k to place n, and the pattern p matches at none of the places before n
unfoldable pub Skipped : Mode → List ℕ → List ℕ → ℕ → ℕ → Type 0
Skipped m p t k n = Passed m (λ j. tail_matches m false p (drop j t) ≡ false) t k n

-- What the run at the start of a pattern leaves to be matched: within a component, the pattern after its n stars; nothing, where it takes
-- all; after a `/`, or at once where `here`, the pattern after its stars and that slash, n bytes in all.
unfoldable pub Leads : Mode → Bool → List ℕ → RunKind → Type 0
Leads m after p (Within n) =
    (1 ≤ n) × (n ≤ length p) × (after_at after p n ≡ false)
    × ((t : List ℕ) (r : Outcome) → MeansRun m false (within_then m (drop n p)) t r → MeansRun m after (tail_matches m after p) t r)
Leads m after p All = (t : List ℕ) → MeansRun m after (tail_matches m after p) t Matched
Leads m after p (ToSlash n here) =
    (1 ≤ n) × (n ≤ length p)
    × ((t : List ℕ) (r : Outcome) → MeansRun m true (slash_then m here (drop n p)) t r → MeansRun m after (tail_matches m after p) t r)

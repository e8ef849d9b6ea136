-- The checks of a question in their order.
use Rattle.std.specs.Prelude.{ℕ, List}
use Rattle.refusals.specs.Refusals.{HoldsZero}
use Rattle.refusals.specs.inner.Checks.{Checks, done, check, FirstHolding}
use Rattle.paths.specs.Paths.{BadPath}
use Rattle.questionrefusals.specs.Conditions.{BadLists, RulesLong, LongLine}

-- 1 to 5, which both questions have
abbrev pub lent_checks : List ℕ → List ℕ → List ℕ → List ℕ → Checks
lent_checks path rules ends bases =
    check 1 (BadPath path)
    (check 2 (BadLists path rules ends bases)
    (check 3 (RulesLong rules)
    (check 4 (HoldsZero rules)
    (check 5 (LongLine rules ends bases) done))))

-- n is the lowest refusal of the lent path and rules, or 0
unfoldable pub LentFirstHolding : List ℕ → List ℕ → List ℕ → List ℕ → ℕ → Type 0
LentFirstHolding path rules ends bases n = FirstHolding (lent_checks path rules ends bases) n

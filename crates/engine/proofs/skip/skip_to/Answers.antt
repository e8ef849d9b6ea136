-- `engine::skip::skip_to` meets its contract: the pattern's first byte shows what may be passed over.
use Rattle.engine.proofs.SkipLaws.{passed_by, skipped_none, skipped_empty, skipped-literal, skipped-item}
use native.Mathlib.Omega.{arith}
use Rattle.std.proofs.Common.{rules, tests}
use Rattle.engine.proofs.skip.skip_to.Goals as goal

pub returns-in-empty : goal.returns-in-empty
returns-in-empty c =
    skipped_empty _ _ _ _ _ (omega arith) (passed_by _ _ _ _ _ c.next_place.ensures.later c.next_place.ensures.within
    (λ j a b. let h = c.next_place.ensures.passed j a b in (search (rules, tests), tt)))

pub returns-in-42 : goal.returns-in-42
returns-in-42 c = skipped_none _ _ _ _ c.requires

pub returns-in-len1-up : goal.returns-in-len1-up
returns-in-len1-up c =
    skipped-literal _ _ _ _ _ (λ e. omega arith) (search (rules, tests)) (passed_by _ _ _ _ _ c.next_place-in-len1-up.ensures.later c.next_place-in-len1-up.ensures.within
    (λ j a b. let h = c.next_place-in-len1-up.ensures.passed j a b in (search (rules, tests), search (rules, tests))))

pub returns-in_default : goal.returns-in_default
returns-in_default c =
    skipped-item _ _ _ _ _ (λ e. omega arith) (λ e. omega arith) (passed_by _ _ _ _ _ c.next_place-in_default.ensures.later c.next_place-in_default.ensures.within
    (λ j a b. let h = c.next_place-in_default.ensures.passed j a b in (search (rules, tests), search (rules, tests))))

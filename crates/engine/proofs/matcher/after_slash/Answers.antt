-- `engine::matcher::after_slash` meets its contract: no `/` stands between.
use Rattle.std.proofs.Common.{rules, tests}
use Rattle.engine.proofs.MatcherLaws.{slash_next}
use Rattle.engine.proofs.matcher.after_slash.Goals as goal

pub returns : goal.returns
returns c = slash_next _ _ _ c.next_place.ensures.later c.next_place.ensures.within
    (λ j a b e. let h = c.next_place.ensures.passed j a b in search (rules, tests)) (λ l. let h = c.next_place.ensures.stopped l in search (rules, tests))

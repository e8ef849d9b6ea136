-- `brokenplaces::sizes::single_size` meets its contract: each return settles the tests of `single`.
use borrow.Author.Rules.{rules}
use Rattle.brokenplaces.proofs.MeasureLaws.{sized_short, sized_plain, sized_close, sized_range, sized_open, sized_escaped}
use Rattle.brokenplaces.proofs.sizes.single_size.Goals as goal

pub returns-then-q-lt2 : goal.returns-then-q-lt2
returns-then-q-lt2 c b = search (rules, sized_short, sized_plain, sized_close)

pub returns-then-q-ne92 : goal.returns-then-q-ne92
returns-then-q-ne92 c b = search (rules, sized_range)

pub returns-then-q-lt3 : goal.returns-then-q-lt3
returns-then-q-lt3 c b = search (rules, sized_open)

pub returns-else-q-lt3 : goal.returns-else-q-lt3
returns-else-q-lt3 c b = search (rules, sized_escaped)

-- `entries::asked_matches` meets its contract: one law for each return.
use borrow.Author.Rules.{rules}
use Rattle.std.proofs.Common.{tests}
use Rattle.entries.proofs.PatternLaws.{bare_empty, bare_filled}
use Rattle.entries.proofs.asked_matches.Goals as goal

pub returns-then-not-is_empty : goal.returns-then-not-is_empty
returns-then-not-is_empty c =
    bare_filled _ c.args.pattern.now _ c.if-anchored.text.now c.has_slash-anchored.result c.without_first_slash-bare.ensures _
    c.has_slash-anchored.ensures (search (tests, rules)) (search rules) c.text_matches.ensures

pub returns-else-not-is_empty : goal.returns-else-not-is_empty
returns-else-not-is_empty c = rw c.if-not-is_empty.false (bare_empty _ c.args.pattern.now _ c.if-anchored.text.now c.has_slash-anchored.result c.without_first_slash-bare.ensures (search rules))

-- `entries::pattern_matches` meets its contract: one law for each return.
use native.Mathlib.Omega.{arith}
use mathlib.Core.Path.{sym, ◌∙◌}
use Rattle.entries.proofs.PatternLaws.{texts_plain, texts_file, texts_directory}
use Rattle.entries.proofs.pattern_matches.Goals as goal

pub returns-then-subject : goal.returns-then-subject
returns-then-subject c = texts_directory _ _ _ (omega arith) (omega arith) c.if-subject.true c.bare_matches.ensures

pub returns-else-subject : goal.returns-else-subject
returns-else-subject c = c.if-subject.false ∙ sym (texts_file _ _ (omega arith) (omega arith) c.if-subject.false)

pub returns-in_default : goal.returns-in_default
returns-in_default c = c.bare_matches-in_default.ensures ∙ texts_plain _ _ (λ l e. grind arith)

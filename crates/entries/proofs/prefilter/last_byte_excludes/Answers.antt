-- `entries::prefilter::last_byte_excludes` meets its contract: it answers yes only where every test before has failed.
use native.Mathlib.Omega.{arith}
use borrow.Author.Rules.{rules}
use mathlib.Core.Path.{refl, sym, ap, ◌∙◌}
use mathlib.Core.Bool.{not}
use Rattle.entries.proofs.PrefilterLaws.{excludes_none, excludes_last}
use Rattle.entries.proofs.prefilter.last_byte_excludes.Goals as goal

pub returns-in-empty : goal.returns-in-empty
returns-in-empty c = excludes_none _ _

pub returns-in-empty-2 : goal.returns-in-empty-2
returns-in-empty-2 c = excludes_none _ _

pub returns-else-not-ends_in : goal.returns-else-not-ends_in
returns-else-not-ends_in c = rw c.if-not-ends_in.false (excludes_none _ _)

pub returns-then-not-ends_in : goal.returns-then-not-ends_in
returns-then-not-ends_in c =
    excludes_last _ _ _ _ (omega arith) refl (search rules) (search rules) (search rules) (search rules)
    (sym c.ends_in.ensures ∙ c.if-not-ends_in.true) (ap not c.ends_in-then-not-ends_in.ensures)

-- `classnames::which_name` meets its contract: the numbers that the code holds are those of the names.
use mathlib.Core.Path.{◌∙◌}
use borrow.Author.Rules.{rules}
use Rattle.classnames.specs.Names.{which_name}
use Rattle.classnames.proofs.PackLaws.{which_packed, which_none}
use Rattle.classnames.proofs.which_name.Goals as goal

pub returns-in_err-pack : goal.returns-in_err-pack
returns-in_err-pack c = search (rules, which_none)

pub returns : goal.returns
returns c = c.place_in.ensures ∙ which_packed _ _ c.in_ok-pack.ensures (λ i. (c.shared_slice_known-1.given i).fits)

-- `classes::members::until_close` meets its contract: the next `]`, from the start on.
use mathlib.Core.Path.{◌∙◌}
use native.Mathlib.Nat.{zero-add}
use Rattle.classes.specs.Members.{until_close}
use Rattle.classes.proofs.members.until_close.Goals as goal

pub returns : goal.returns
unfolding until_close
returns c = c.find_byte.ensures ∙ zero-add _

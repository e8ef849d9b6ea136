-- `attributelines::mention::name_in` meets its contract: the bytes before the first `=`, or all.
use mathlib.Core.Path.{sym, ◌∙◌}
use Rattle.attributelines.proofs.MentionLaws.{name_cut, name_whole}
use Rattle.attributelines.proofs.mention.name_in.Goals as goal

pub returns-in-Some : goal.returns-in-Some
returns-in-Some c = name_cut _ _ (sym c.first_place.ensures ∙ c.in-Some.is)

pub returns-in-None : goal.returns-in-None
returns-in-None c = name_whole _ (sym c.first_place.ensures ∙ c.in-None.is)

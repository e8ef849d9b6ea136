-- `verdicts::attribute::attribute_answer` meets its contract: of the attribute lines, the last decision is the state, and the state is the answer.
use mathlib.Core.Path.{◌≡◌, refl, ap, ◌∙◌}
use Rattle.std.specs.Prelude.{Option, None, Some, Ok}
use Rattle.rulefiles.specs.declared.Decision.{Decision}
use Rattle.attributelines.specs.declared.State.{State}
use Rattle.answers.specs.Complete.{complete_attribute}
use Rattle.verdicts.specs.Verdicts.{state_answer}
use Rattle.verdicts.proofs.VerdictLaws.{entry_of, attribute_reads}
use Rattle.verdicts.proofs.attribute.attribute_answer.Goals as goal

told : (last : Option (Decision State)) → complete_attribute (Ok last) ≡ state_answer last
unfolding complete_attribute
told None = refl
told (Some d) = refl

pub returns : goal.returns
returns c =
    told _ ∙ ap state_answer (c.last_decision.ensures ∙ attribute_reads c.args.fold (entry_of c.args.path.now c.args.directory) c.args.attribute.now _)

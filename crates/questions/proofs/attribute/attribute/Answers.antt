-- `questions::attribute::attribute` meets its contract: a refusal is the lowest; an accepted question has its answer.
use Rattle.std.proofs.Common.{rules}
use Rattle.questions.proofs.AnswerLaws.{attribute_refused, attribute_answered}
use Rattle.questions.proofs.attribute.attribute.Goals as goal

pub returns-in_err-attribute_refusal : goal.returns-in_err-attribute_refusal
returns-in_err-attribute_refusal c = search (rules, attribute_refused)

pub returns : goal.returns
returns c = attribute_answered _ _ _ _ _ _ _ _ _ c.in_ok-attribute_refusal.ensures c.flag_one.ensures c.flag_two.ensures c.attribute_answer.ensures

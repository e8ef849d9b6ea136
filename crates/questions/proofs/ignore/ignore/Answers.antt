-- `questions::ignore::ignore` meets its contract: a refusal is the lowest; an accepted question has its answer.
use Rattle.std.proofs.Common.{rules}
use Rattle.questions.proofs.AnswerLaws.{ignore_refused, ignore_answered}
use Rattle.questions.proofs.ignore.ignore.Goals as goal

pub returns-in_err-ignore_refusal : goal.returns-in_err-ignore_refusal
returns-in_err-ignore_refusal c = search (rules, ignore_refused)

pub returns : goal.returns
returns c = ignore_answered _ _ _ _ _ _ _ _ c.in_ok-ignore_refusal.ensures c.flag_one.ensures c.flag_two.ensures c.judge_path.ensures

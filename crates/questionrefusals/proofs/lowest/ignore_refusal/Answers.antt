use Rattle.std.proofs.Common.{rules}
use Rattle.refusals.proofs.NumberLaws.{numbered}
use Rattle.bytestrings.proofs.BoolLaws.{not_if_false}
use Rattle.questionrefusals.proofs.QuestionLaws.{ignore_by_lent, ignore_after_lent}
use Rattle.questionrefusals.proofs.lowest.ignore_refusal.Goals as goal

pub returns-in_err-lent_refusal : goal.returns-in_err-lent_refusal
returns-in_err-lent_refusal c = search (rules, ignore_by_lent, numbered)

pub returns-then-flags_high : goal.returns-then-flags_high
returns-then-flags_high c = search (rules, ignore_after_lent, not_if_false)

pub returns : goal.returns
returns c =
    let lent = c.in_ok-lent_refusal.ensures in
    ignore_after_lent _ _ _ _ _ _ lent (search (rules, not_if_false))

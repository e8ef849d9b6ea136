-- `wildmatch::wildmatch` meets its contract: the tests come in the table's order, and each return names its refusal or the answer.
use Rattle.bytestrings.proofs.BoolLaws.{not_if_false}
use Rattle.refusals.proofs.LowestLaws.{refuses_7, refuses_8, refuses_9, refuses_none}
use Rattle.wildmatch.proofs.AnswerLaws.{answers, gives_refused, gives_matched, gives_broken, gives_unmatched}
use mathlib.Core.Logic.{inl, inr}
use borrow.Author.Rules.{rules}
use Rattle.wildmatch.proofs.wildmatch.Goals as goal

pub returns-then-too_long : goal.returns-then-too_long
returns-then-too_long c = answers _ _ _ _ (gives_refused _ _ _ _ (refuses_7 _ _ _ (c.too_long.ensures.0 c.if-too_long.true)))

pub returns-then-holds_zero : goal.returns-then-holds_zero
returns-then-holds_zero c = answers _ _ _ _ (gives_refused _ _ _ _ (refuses_8 _ _ _ (not_if_false c.too_long.ensures c.if-too_long.false) (inl (c.holds_zero.ensures.0 c.if-holds_zero.true))))

pub returns-then-holds_zero-2 : goal.returns-then-holds_zero-2
returns-then-holds_zero-2 c =
    answers _ _ _ _ (gives_refused _ _ _ _ (refuses_8 _ _ _ (not_if_false c.too_long.ensures c.if-too_long.false) (inr (c.holds_zero-2.ensures.0 c.if-holds_zero-2.true))))

pub returns-then-flags_high : goal.returns-then-flags_high
returns-then-flags_high c =
    answers _ _ _ _
    (gives_refused _ _ _ _
    (refuses_9 _ _ _ (not_if_false c.too_long.ensures c.if-too_long.false) (not_if_false c.holds_zero.ensures c.if-holds_zero.false) (not_if_false c.holds_zero-2.ensures c.if-holds_zero-2.false)
    (c.flags_high.ensures.0 c.if-flags_high.true)))

pub returns-then-matches : goal.returns-then-matches
returns-then-matches c =
    answers _ _ _ _ (gives_matched _ _ _ (search (rules, refuses_none, not_if_false)) _ _ c.mode_of.ensures c.matches.ensures c.if-matches.true)

pub returns-in-None : goal.returns-in-None
returns-in-None c =
    answers _ _ _ _
    (gives_unmatched _ _ _ (search (rules, refuses_none, not_if_false)) _ _ c.mode_of.ensures
    c.matches.ensures c.if-matches.false c.in-None.ensures)

pub returns-in-Some : goal.returns-in-Some
returns-in-Some c =
    answers _ _ _ _
    (gives_broken _ _ _ (search (rules, refuses_none, not_if_false)) _ c.in-Some.ensures)

use Prim.Native.Nat.{◌+◌, ◌≤◌}
use mathlib.Core.Path.{refl, sym, ap, ◌∙◌}
use borrow.Author.Rules.{rules}
use lib.ListN.{length, drop}
use Rattle.attributelines.specs.inner.Scan.{blank_length, IsNextToken}
use Rattle.attributelines.proofs.TokenLaws.{tokens_end}
use Rattle.attributelines.proofs.LineLaws.{pending, pending_begin, pending_end, turn_bad, turn_named, turn_other}
use Rattle.attributelines.proofs.mentions_effect.Goals as goal

pub loop-start-init : goal.loop-start-init
loop-start-init c = pending_begin _ _

pub returns-then-not-name_good : goal.returns-then-not-name_good
returns-then-not-name_good c =
    let t : IsNextToken c.args.text.now c.loop-start.at c.in-Some.start c.in-Some.end = search rules in
    sym (c.loop-start.invariant ∙ turn_bad c.args.attribute.now c.args.text.now c.loop-start.at c.in-Some.start c.in-Some.end t c.loop-start.effect
    _ c.read_mention-mention.ensures.name _ c.name_good.ensures c.if-not-name_good.true)

pub loop-start-preserved-then-same_bytes : goal.loop-start-preserved-then-same_bytes
loop-start-preserved-then-same_bytes c =
    let t : IsNextToken c.args.text.now c.loop-start.at c.in-Some.start c.in-Some.end = search rules in
    c.loop-start.invariant ∙ turn_named c.args.attribute.now c.args.text.now c.loop-start.at c.in-Some.start c.in-Some.end t c.loop-start.effect
    _ c.read_mention-mention.ensures.name _ c.name_good.ensures c.if-not-name_good.false _ c.same_bytes.ensures _ c.if-same_bytes.true c.read_mention-mention.ensures.state

pub loop-start-preserved : goal.loop-start-preserved
loop-start-preserved c =
    let t : IsNextToken c.args.text.now c.loop-start.at c.in-Some.start c.in-Some.end = search rules in
    c.loop-start.invariant ∙ turn_other c.args.attribute.now c.args.text.now c.loop-start.at c.in-Some.start c.in-Some.end t c.loop-start.effect
    _ c.read_mention-mention.ensures.name _ c.name_good.ensures c.if-not-name_good.false _ c.same_bytes.ensures c.if-same_bytes.false

pub returns : goal.returns
returns c =
    let s = c.args.text.now in
    let i = c.loop-start.at in
    let none : length s ≤ i + blank_length (drop i s) = search rules in
    sym (c.loop-start.invariant ∙ ap (pending c.args.attribute.now c.loop-start.effect) (tokens_end s i _ refl none) ∙ pending_end c.args.attribute.now c.loop-start.effect)

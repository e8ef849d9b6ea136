-- `attributelines::line_effect` meets its contract: no token, a dropped pattern, one that does not match, or the mentions after it.
use Prim.Native.Nat.{◌+◌, ◌≤◌}
use mathlib.Core.Path.{refl, sym, ◌∙◌}
use borrow.Author.Rules.{rules}
use lib.ListN.{length, drop}
use Rattle.attributelines.specs.inner.Scan.{blank_length, IsNextToken}
use Rattle.attributelines.proofs.TokenLaws.{tokens_end}
use Rattle.attributelines.proofs.LineLaws.{cut, line_empty, line_dropped, line_other, line-matched}
use Rattle.attributelines.proofs.line_effect.Goals as goal
use Rattle.attributelines.proofs.line_effect.Goals.{then-pattern_dropped-via-then-pattern_dropped, then-pattern_dropped-via-else-pattern_dropped+then-not-pattern_matches}

pub returns-in_err-start : goal.returns-in_err-start
returns-in_err-start c =
    let s = c.args.text.now in
    let none : length s ≤ c.args.at + blank_length (drop c.args.at s) = search rules in
    rw c.from_residual.ensures (line_empty _ _ _ _ (tokens_end s c.args.at _ refl none))

pub returns-then-pattern_dropped : goal.returns-then-pattern_dropped
returns-then-pattern_dropped c =
    let t : IsNextToken c.args.text.now c.args.at c.in_ok-start.start c.in_ok-start.end = search rules in
    let tokens = cut c.args.attribute.now c.args.text.now c.args.at c.in_ok-start.start c.in_ok-start.end t in
    elim c.then-pattern_dropped.branch [
      | then-pattern_dropped-via-then-pattern_dropped w ↦ line_dropped _ _ _ _ _ _ tokens (sym c.pattern_dropped.ensures ∙ w.if-pattern_dropped.true)
      | then-pattern_dropped-via-else-pattern_dropped+then-not-pattern_matches w ↦
          line_other _ _ _ _ _ _ tokens (sym c.pattern_dropped.ensures ∙ w.if-pattern_dropped.false) (sym w.pattern_matches.ensures ∙ w.if-not-pattern_matches.true)
    ]

pub returns : goal.returns
returns c =
    let t : IsNextToken c.args.text.now c.args.at c.in_ok-start.start c.in_ok-start.end = search rules in
    line-matched _ _ _ _ _ _ _ (cut c.args.attribute.now c.args.text.now c.args.at c.in_ok-start.start c.in_ok-start.end t)
    (sym c.pattern_dropped.ensures ∙ c.if-pattern_dropped.false) (sym c.pattern_matches.ensures ∙ c.if-not-pattern_matches.false) c.mentions_effect.ensures

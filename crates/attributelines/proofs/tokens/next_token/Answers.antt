-- `attributelines::tokens::next_token` meets its contract: the blanks end, and then the bytes that are none.
use Prim.Native.Nat.{◌+◌}
use native.Mathlib.Omega.{arith}
use mathlib.Core.Path.{◌≡◌}
use mathlib.Core.Bool.{not}
use lib.ListN.{drop}
use Rattle.std.proofs.Common.{rules, tests}
use Rattle.attributelines.specs.AttributeLines.{is_blank}
use Rattle.attributelines.specs.inner.Scan.{blank_length}
use Rattle.attributelines.proofs.TokenLaws.{found_place, token_some}
use Rattle.attributelines.proofs.tokens.next_token.Goals as goal

pub returns-then-start-text : goal.returns-then-start-text
returns-then-start-text c =
    let start : c.next_place-start.result ≡ c.args.at + blank_length (drop c.args.at c.args.text.now) =
    found_place (λ b. not (is_blank b)) c.args.text.now c.args.at _ c.next_place-start.ensures.later c.next_place-start.ensures.within
    (λ j a b. let h = c.next_place-start.ensures.passed j a b in search (rules, tests)) (λ l. let h = c.next_place-start.ensures.found l in search (rules, tests)) in
    omega arith

pub returns : goal.returns
returns c =
    let start : c.next_place-start.result ≡ c.args.at + blank_length (drop c.args.at c.args.text.now) =
    found_place (λ b. not (is_blank b)) c.args.text.now c.args.at _ c.next_place-start.ensures.later c.next_place-start.ensures.within
    (λ j a b. let h = c.next_place-start.ensures.passed j a b in search (rules, tests)) (λ l. let h = c.next_place-start.ensures.found l in search (rules, tests)) in
    token_some _ _ _ start _ c.next_place-start.ensures.later (omega arith)
    (found_place is_blank c.args.text.now c.next_place-start.result _ c.next_place.ensures.later c.next_place.ensures.within
    (λ j a b. let h = c.next_place.ensures.passed j a b in search (rules, tests)) (λ l. let h = c.next_place.ensures.found l in search (rules, tests)))

-- `attributelines::mention::plain_mention` meets its contract: a `=` follows, or not.
use mathlib.Core.Path.{sym, ap, ◌∙◌}
use Rattle.attributelines.specs.AttributeLines.{Mention}
use Rattle.attributelines.proofs.MentionLaws.{plain_value, plain_set}
use Rattle.attributelines.proofs.mention.plain_mention.Goals as goal

pub returns-in-Some : goal.returns-in-Some
returns-in-Some c =
    let e = plain_value c.args.token.now c.args.at c.in-Some.n (sym c.first_place.ensures ∙ c.in-Some.is) in
    record { name = ap (λ (m : Mention). m.name) e; state = ap (λ (m : Mention). m.state) e }

pub returns-in-None : goal.returns-in-None
returns-in-None c =
    let e = plain_set c.args.token.now c.args.at (sym c.first_place.ensures ∙ c.in-None.is) in
    record { name = ap (λ (m : Mention). m.name) e; state = ap (λ (m : Mention). m.state) e }

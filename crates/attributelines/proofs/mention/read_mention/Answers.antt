-- `attributelines::mention::read_mention` meets its contract: by the first byte.
use native.Mathlib.Omega.{arith}
use mathlib.Core.Path.{ap, ◌∙◌}
use Rattle.attributelines.specs.AttributeLines.{Mention}
use Rattle.attributelines.proofs.MentionLaws.{mention_minus, mention_not, mention_plain}
use Rattle.attributelines.proofs.mention.read_mention.Goals as goal

pub returns-in-45 : goal.returns-in-45
returns-in-45 c =
    let e = mention_minus c.args.at c.args.token.now (omega arith) (omega arith) in
    record { name = c.name_in.ensures ∙ ap (λ (m : Mention). m.name) e; state = ap (λ (m : Mention). m.state) e }

pub returns-in-33 : goal.returns-in-33
returns-in-33 c =
    let e = mention_not c.args.at c.args.token.now (omega arith) (omega arith) in
    record { name = c.name_in-in-33.ensures ∙ ap (λ (m : Mention). m.name) e; state = ap (λ (m : Mention). m.state) e }

pub returns-in_default : goal.returns-in_default
returns-in_default c =
    let e = mention_plain c.args.at c.args.token.now (λ l h. grind arith) (λ l h. grind arith) in
    record { name = c.plain_mention.ensures.name ∙ ap (λ (m : Mention). m.name) e; state = c.plain_mention.ensures.state ∙ ap (λ (m : Mention). m.state) e }

-- `entries::has_slash` meets its contract: one of the bytes is a `/`.
use mathlib.Core.Path.{refl}
use borrow.Author.Rules.{rules}
use lib.Dec.{eqb}
use Rattle.std.proofs.Common.{tests}
use Rattle.std.proofs.lemmas.List.Recursion.{or_is}
use Rattle.bytestrings.specs.Text.{char}
use Rattle.bytestrings.specs.Bytes.{has}
use Rattle.entries.proofs.has_slash.Goals as goal

pub returns : goal.returns
returns c =
    or_is (has (char "/")) (λ x. eqb x (char "/")) refl (λ x xs. refl) c.args.pattern.now 0 c.any.result (search (tests, rules)) (search (tests, rules))

-- `brokenplaces::sizes::name_size` meets its contract: each return settles the tests of `name_at`.
use mathlib.Core.Path.{refl, subst}
use native.Mathlib.Omega.{arith}
use borrow.Author.Rules.{rules}
use mathlib.Core.Path.{◌≡◌}
use Rattle.bytestrings.specs.Text.{char}
use Rattle.classes.specs.Members.{byte, member, name_at}
use Rattle.brokenplaces.specs.inner.ClassSizes.{Sized}
use Rattle.classes.proofs.MemberLaws.{name_open, name_empty, name-plain, name_unknown, name-found}
use Rattle.brokenplaces.proofs.sizes.name_size.Goals as goal

pub returns-then-q-n : goal.returns-then-q-n
returns-then-q-n c = subst (Sized _) (name_open _ _ c.requires (omega arith)) refl

pub returns-then-n-eq0 : goal.returns-then-n-eq0
unfolding name_at
returns-then-n-eq0 c = let e : member (byte (char "[")) 1 ≡ name_at c.args.q.now = search (rules, name_empty, name-plain) in subst (Sized _) e refl

pub returns-in_err-which_name : goal.returns-in_err-which_name
returns-in_err-which_name c =
    subst (Sized _) (name_unknown _ _ c.requires (omega arith) (omega arith) (omega arith) c.in_err-which_name.ensures) c.from_residual.ensures

pub returns : goal.returns
returns c =
    subst (Sized _) (name-found _ _ c.requires (omega arith) (omega arith) (omega arith) _ c.in_ok-which_name.ensures) refl

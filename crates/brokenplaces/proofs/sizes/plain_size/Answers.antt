-- `brokenplaces::sizes::plain_size` meets its contract: each return settles the tests of `next_member`.
use mathlib.Core.Path.{refl, subst}
use native.Mathlib.Omega.{arith}
use Rattle.brokenplaces.specs.inner.ClassSizes.{Sized}
use Rattle.classes.proofs.MemberLaws.{first_goes_on, next_open, next_escaped}
use Rattle.brokenplaces.proofs.MeasureLaws.{plain-single}
use Rattle.brokenplaces.proofs.sizes.plain_size.Goals as goal

pub returns-then-q-ne92 : goal.returns-then-q-ne92
returns-then-q-ne92 c =
    plain-single _ _ c.requires.1 (omega arith) (omega arith) c.single_size.ensures

pub returns-then-q-lt2 : goal.returns-then-q-lt2
returns-then-q-lt2 c = subst (Sized _) (next_open _ _ (omega arith) (first_goes_on _ _ refl) (omega arith) (omega arith)) refl

pub returns : goal.returns
returns c = subst (Sized _) (next_escaped _ _ _ (first_goes_on _ _ refl) (omega arith) (omega arith) refl) (c.single_size-2.ensures _)

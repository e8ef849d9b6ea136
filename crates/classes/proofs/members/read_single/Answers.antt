-- `classes::members::read_single` meets its contract: each return settles the tests of `single`.
use mathlib.Core.Path.{refl}
use Rattle.classes.proofs.MemberLaws.{single_short, single-plain, single-close, single-range, single_open, single_escaped}
use Rattle.classes.proofs.members.read_single.Goals as goal

pub returns-then-q-lt2 : goal.returns-then-q-lt2
returns-then-q-lt2 c = (single_short _ _ _ c.if-q-lt2.true, refl)

pub returns-then-q-ne45 : goal.returns-then-q-ne45
returns-then-q-ne45 c = (single-plain _ _ _ c.if-q-lt2.false c.if-q-ne45.true, refl)

pub returns-then-y-eq93 : goal.returns-then-y-eq93
returns-then-y-eq93 c =
    (single-close _ _ _ c.if-q-lt2.false c.if-q-ne45.false c.if-y-eq93.true, refl)

pub returns-then-y-ne92 : goal.returns-then-y-ne92
returns-then-y-ne92 c =
    (single-range _ _ _ c.if-q-lt2.false c.if-q-ne45.false c.if-y-eq93.false c.if-y-ne92.true, refl)

pub returns-then-q-lt3 : goal.returns-then-q-lt3
returns-then-q-lt3 c =
    (single_open _ _ _ c.if-q-lt2.false c.if-q-ne45.false c.if-y-ne92.false c.if-q-lt3.true, refl)

pub returns : goal.returns
returns c =
    (single_escaped _ _ _ c.if-q-ne45.false c.if-y-ne92.false c.if-q-lt3.false, refl)

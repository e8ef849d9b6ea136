-- The bytes passed and those left come to where all of them do.
use mathlib.Core.Path.{◌≡◌}
use lib.ListN.{drop}
use Rattle.whichline.specs.Places.{Onward, after_bytes}
use Rattle.whichline.proofs.fields.Out.put_field.Given as goal

abbrev pub invariant-loop-b : goal.invariant-loop-b
invariant-loop-b l = record {
  left : after_bytes l.initial.self l.s ≡ after_bytes l.self (drop l.b-index l.s);
  onward : Onward l.fn.self l.self;
}

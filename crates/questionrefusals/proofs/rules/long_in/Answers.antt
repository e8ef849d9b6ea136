use Rattle.questionrefusals.proofs.LongLaws.{long_over, long_here, long_skip, found_within}
use Rattle.bytestrings.proofs.BoolLaws.{yes_iff, no_iff}
use Rattle.std.proofs.lemmas.List.{length-take}
use Rattle.std.proofs.Common.{arith}
use mathlib.Core.Logic.Iff
use Rattle.questionrefusals.proofs.rules.long_in.Goals as goal

pub slice_bounds-rest-count : goal.slice_bounds-rest-count
slice_bounds-rest-count c = found_within _ _ _ _ c.last_newline.ensures c.in-Some.is (simp length-take (omega arith))

pub slice_bounds-rest-start : goal.slice_bounds-rest-start
slice_bounds-rest-start c = found_within _ _ _ _ c.last_newline.ensures c.in-Some.is (simp length-take (omega arith))

pub loop-rest-preserved : goal.loop-rest-preserved
loop-rest-preserved c = Iff.trans c.loop-rest.invariant (long_skip _ c.loop-rest-test.true c.in-Some.newline c.in-Some.ensures)

pub returns-in-None : goal.returns-in-None
returns-in-None c = yes_iff (c.loop-rest.invariant.1 (long_here _ c.loop-rest-test.true c.in-None.ensures))

pub returns : goal.returns
returns c = no_iff (λ b. long_over _ c.loop-rest-test.false (c.loop-rest.invariant.0 b))

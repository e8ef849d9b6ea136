use Rattle.engine.proofs.SegmentLaws.{along_begin, along_long}
use Rattle.engine.proofs.segment.match_segment.Goals as goal

pub loop-i-init : goal.loop-i-init
loop-i-init c = along_begin _ _ _

pub returns-else-j-t : goal.returns-else-j-t
returns-else-j-t c = along_long _ _ _ _ _ c.loop-i.invariant c.loop-i-test.false c.if-j-t.false

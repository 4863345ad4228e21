use Rattle.keep.proofs.Marking.{marking_done}
use Rattle.keep.proofs.mark_crust.Goals as goal

pub returns : goal.returns
returns c = marking_done _ _ _ _ _ c.loop-i.invariant c.loop-i-test.false

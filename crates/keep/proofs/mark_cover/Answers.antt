use Rattle.keep.proofs.Marking.{behind_step, probe_asked, marking_done}
use Rattle.keep.proofs.mark_cover.Goals as goal

pub cover_mark-mark-requires : goal.cover_mark-mark-requires
cover_mark-mark-requires c = probe_asked _ _ _ _ _ c.requires _ _ (c.loop-i.invariant c.requires) c.loop-i-test.true

pub loop-i-preserved : goal.loop-i-preserved
loop-i-preserved c = λ a. behind_step _ _ _ _ _ a _ _ (c.loop-i.invariant a) c.loop-i-test.true c.cover_mark-mark.ensures

pub returns : goal.returns
returns c = marking_done _ _ _ _ _ (c.loop-i.invariant c.requires).marking c.loop-i-test.false

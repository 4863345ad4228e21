use Rattle.marked.proofs.Placing.{copying_step, copying_done}
use Rattle.marked.proofs.store_points.Goals as goal

pub loop-v-preserved : goal.loop-v-preserved
loop-v-preserved c = copying_step _ _ _ _ _ _ c.loop-v.invariant c.store_point.auto.kept_points c.store_point.ensures

pub returns : goal.returns
returns c = copying_done _ _ _ _ _ c.loop-v.invariant c.loop-v-test.false

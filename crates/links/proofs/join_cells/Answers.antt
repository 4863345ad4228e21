use Rattle.links.proofs.Vertexes.{joining_start, joining_step}
use Rattle.links.proofs.join_cells.Goals as goal

pub loop-i-init : goal.loop-i-init
loop-i-init c = joining_start _ _ _ c.requires.1

pub loop-i-preserved : goal.loop-i-preserved
loop-i-preserved c = joining_step _ _ _ _ _ _ c.loop-i.invariant c.loop-i-test.true c.join_cell.auto.parent c.join_cell.ensures

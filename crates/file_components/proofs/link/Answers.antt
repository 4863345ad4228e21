use native.Mathlib.Omega.{arith}
use Rattle.links.proofs.Vertexes.{joining_start, joining_step, joining_done}
use Rattle.file_components.proofs.Comparing.{cells_in_lem}
use Rattle.file_components.proofs.link.Goals as goal

pub loop-i-init : goal.loop-i-init
loop-i-init c = joining_start _ _ _ c.start.ensures

pub loop-i-preserved : goal.loop-i-preserved
loop-i-preserved c = joining_step _ _ _ _ _ _ c.loop-i.invariant (omega (arith, cells_in_lem c.args.file.now c.args.s, c.loop-i-test.true)) c.join_cell.auto.parent c.join_cell.ensures

pub returns : goal.returns
returns c = joining_done _ _ _ _ _ c.loop-i.invariant c.requires.1.whole (omega (arith, cells_in_lem c.args.file.now c.args.s, c.loop-i-test.false))

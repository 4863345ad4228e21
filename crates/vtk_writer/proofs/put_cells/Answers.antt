use native.Mathlib.Omega.{arith}
use Rattle.words.proofs.Turns.{writing_done}
use Rattle.vtk_writer.proofs.Writing.{length_led, cells_on}
use Rattle.vtk_writer.proofs.put_cells.Goals as goal

pub loop-i-preserved : goal.loop-i-preserved
loop-i-preserved c = cells_on _ _ _ _ _ c.loop-i.invariant c.loop-i-test.true c.put_cell.ensures

pub returns : goal.returns
returns c = writing_done _ _ _ _ _ _ c.loop-i.invariant (omega (arith, length_led c.args.cells.now, c.loop-i-test.false))

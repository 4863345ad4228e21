use Rattle.vtk_writer.proofs.Writing.{cell_stored}
use Rattle.vtk_writer.proofs.put_cell.Goals as goal

pub returns : goal.returns
returns c = cell_stored _ _ _ _ c.put_word.ensures c.put_word-2.ensures c.put_word-3.ensures c.put_word-4.ensures c.put_word-5.ensures

use Rattle.vtk_reader.proofs.Judging.{Looking}
use Rattle.vtk_reader.proofs.judge_cells.Given as goal

abbrev pub invariant-loop-i : goal.invariant-loop-i
invariant-loop-i l = Looking l.file l.at l.n l.bound l.named l.i

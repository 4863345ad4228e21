use mathlib.Core.Bool.{true}
use Prim.Native.Nat.{◌*◌}
use Rattle.words.proofs.Turns.{Writing}
use Rattle.vtk_layout.specs.File.{led}
use Rattle.vtk_writer.proofs.put_cells.Given as goal

abbrev pub invariant-loop-i : goal.invariant-loop-i
invariant-loop-i l = Writing true (led l.cells) l.initial.file l.at l.file (5 * l.i)

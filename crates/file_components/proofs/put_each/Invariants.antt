use mathlib.Core.Path.{◌≡◌}
use Prim.Native.Nat.{◌/◌}
use lib.ListN.{length}
use Rattle.mesh.specs.Mesh.{cells_of}
use Rattle.words.proofs.Turns.{Writing}
use Rattle.components.specs.Numbers.{component_numbers}
use Rattle.components.proofs.Numbering.{Numbering}
use Rattle.file_components.proofs.put_each.Given as goal

abbrev pub invariant-loop-i : goal.invariant-loop-i
invariant-loop-i l = (l.many ≡ length l.cells / 4) × Numbering l.cells l.work l.n l.count l.i × Writing l.big (component_numbers l.cells (cells_of l.cells)) l.initial.file l.at l.file l.i

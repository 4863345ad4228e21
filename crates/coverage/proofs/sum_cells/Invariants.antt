use Prim.Native.Nat.{◌+◌}
use Rattle.lists.specs.Runs.{sums}
use Rattle.mesh.specs.Mesh.{cells_of}
use Rattle.tiling.specs.Tables.{six_at}
use Rattle.coverage.specs.Step.{kept_at}
use Rattle.coverage.proofs.Summing.{Growing}
use Rattle.coverage.proofs.sum_cells.Given as goal

abbrev pub invariant-loop-i : goal.invariant-loop-i
invariant-loop-i l =
    Growing (kept_at l.triples l.cells l.marks) (cells_of l.cells) l.i l.part (l.part-2 + sums (cells_of l.cells) (kept_at l.triples l.cells l.marks) 0)
    × Growing (six_at l.triples l.cells) (cells_of l.cells) l.i l.all (l.all-2 + sums (cells_of l.cells) (six_at l.triples l.cells) 0)

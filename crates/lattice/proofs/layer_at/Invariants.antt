use Prim.Native.Nat.{◌+◌, ◌-◌, ◌/◌}
use Rattle.lists.specs.Runs.{run, Storing}
use Rattle.space.specs.Space.{pos}
use Rattle.lattice.specs.Parts.{row_cells, layer_cells}
use Rattle.lattice.proofs.layer_at.Given as goal

abbrev pub invariant-loop-j : goal.invariant-loop-j
invariant-loop-j l =
    Storing l.initial.cells l.at (layer_cells (pos l.nx l.ny l.nz) l.k) l.cells l.here (run ((l.ny + 1) / 2 - l.j) (row_cells (pos l.nx l.ny l.nz) l.k) l.j)

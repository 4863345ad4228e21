use Prim.Native.Nat.{◌+◌, ◌-◌, ◌/◌}
use Rattle.lists.specs.Runs.{run, Storing}
use Rattle.space.specs.Space.{pos}
use Rattle.lattice.specs.Parts.{layer_cells, all_cells}
use Rattle.lattice.proofs.store_cells.Given as goal

abbrev pub invariant-loop-k : goal.invariant-loop-k
invariant-loop-k l = Storing l.initial.cells 0 (all_cells (pos l.nx l.ny l.nz)) l.cells l.here (run ((l.nz + 1) / 2 - l.k) (layer_cells (pos l.nx l.ny l.nz)) l.k)

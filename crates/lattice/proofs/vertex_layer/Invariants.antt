use Prim.Native.Nat.{◌-◌}
use Rattle.lists.specs.Runs.{run, Storing}
use Rattle.plan.specs.Vertices.{triple_at, point_at}
use Rattle.lattice.specs.Parts.{row_of}
use Rattle.lattice.proofs.vertex_layer.Given as goal

abbrev pub invariant-loop-j : goal.invariant-loop-j
invariant-loop-j l = Storing l.initial.triples l.at (run l.m (row_of triple_at l.e l.n l.k) 0) l.triples l.here (run (l.m - l.j) (row_of triple_at l.e l.n l.k) l.j) × Storing l.initial.points l.at (run l.m (row_of (point_at l.p) l.e l.n l.k) 0) l.points l.here (run (l.m - l.j) (row_of (point_at l.p) l.e l.n l.k) l.j)

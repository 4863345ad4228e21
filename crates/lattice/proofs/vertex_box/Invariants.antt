use Prim.Native.Nat.{◌-◌}
use Rattle.lists.specs.Runs.{run, Storing}
use Rattle.plan.specs.Vertices.{triple_at, point_at}
use Rattle.lattice.specs.Parts.{layer_of}
use Rattle.lattice.proofs.vertex_box.Given as goal

abbrev pub invariant-loop-k : goal.invariant-loop-k
invariant-loop-k l = Storing l.initial.triples l.at (run l.l (layer_of triple_at l.e l.n l.m) 0) l.triples l.here (run (l.l - l.k) (layer_of triple_at l.e l.n l.m) l.k) × Storing l.initial.points l.at (run l.l (layer_of (point_at l.p) l.e l.n l.m) 0) l.points l.here (run (l.l - l.k) (layer_of (point_at l.p) l.e l.n l.m) l.k)

use Prim.Native.Nat.{◌-◌}
use lib.ListN.{get_or}
use Rattle.lists.specs.Runs.{run, Storing}
use Rattle.plan.specs.Vertices.{triple_at, point_at}
use Rattle.grid.specs.Parts.{three_of, key_table}
use Rattle.grid.proofs.store_vertices.Given as goal

abbrev pub invariant-loop-key : goal.invariant-loop-key
invariant-loop-key l =
    Storing l.initial.triples 0 (key_table triple_at l.v l.keys) l.triples l.here (run (l.v - l.key-index) (λ k. three_of triple_at (get_or l.keys k 0)) l.key-index)
    × Storing l.initial.points 0 (key_table (point_at l.p) l.v l.keys) l.points l.here (run (l.v - l.key-index) (λ k. three_of (point_at l.p) (get_or l.keys k 0)) l.key-index)

use mathlib.Core.List.{[], ◌∷◌}
use Prim.Native.Nat.{◌+◌, ◌*◌, ◌-◌}
use Rattle.lists.specs.Runs.{run, Storing}
use Rattle.space.specs.Space.{ax, ay, az}
use Rattle.plan.specs.Vertices.{triple_at, point_at}
use Rattle.lattice.specs.Parts.{row_of}
use Rattle.lattice.proofs.vertex_row.Given as goal

abbrev pub invariant-loop-i : goal.invariant-loop-i
invariant-loop-i l =
    Storing l.initial.triples l.at (row_of triple_at l.e l.n l.k l.j) l.triples l.here (run (l.n - l.i) (λ m. triple_at ax (2 * m + l.e) ∷ triple_at ay (2 * l.j + l.e) ∷ triple_at az (2 * l.k + l.e) ∷ []) l.i)
    × Storing l.initial.points l.at (row_of (point_at l.p) l.e l.n l.k l.j) l.points l.here (run (l.n - l.i) (λ m. point_at l.p ax (2 * m + l.e) ∷ point_at l.p ay (2 * l.j + l.e) ∷ point_at l.p az (2 * l.k + l.e) ∷ []) l.i)

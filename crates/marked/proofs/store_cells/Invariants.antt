use Rattle.marked.proofs.Placing.{Placing}
use Rattle.marked.proofs.store_cells.Given as goal

abbrev pub invariant-loop-i : goal.invariant-loop-i
invariant-loop-i l = Placing l.cells l.work l.initial.kept_cells l.n l.kept_cells l.i l.k

use lib.ListN.{length}
use Rattle.links.proofs.Vertexes.{Joining}
use Rattle.links.proofs.join_cells.Given as goal

abbrev pub invariant-loop-i : goal.invariant-loop-i
invariant-loop-i l = Joining l.cells l.crossing l.parent (length l.initial.parent) l.i

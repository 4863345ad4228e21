use Rattle.keep.specs.Marked.{crust_mark}
use Rattle.keep.proofs.Marking.{Marking}
use Rattle.keep.proofs.mark_crust.Given as goal

abbrev pub invariant-loop-i : goal.invariant-loop-i
invariant-loop-i l = Marking (crust_mark l.crossing) l.cells l.work l.n l.i

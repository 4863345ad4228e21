use lib.ListN.{drop}
use Rattle.marked.proofs.Weighing.{Tallying}
use Rattle.marked.proofs.weigh_all.Given as goal

abbrev pub invariant-loop-i : goal.invariant-loop-i
invariant-loop-i l = Tallying l.points l.cells (drop l.n l.initial.work) l.n l.least l.work l.i l.counts

use Rattle.pieces.proofs.Chains.{Chained}
use Rattle.pieces.proofs.link.Given as goal

abbrev pub invariant-loop-i : goal.invariant-loop-i
invariant-loop-i l = Chained l.cells l.initial.work l.work l.at l.i

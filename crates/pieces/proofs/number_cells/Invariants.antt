use Rattle.pieces.proofs.Numbering.{Turning}
use Rattle.pieces.proofs.number_cells.Given as goal

abbrev pub invariant-loop-i : goal.invariant-loop-i
invariant-loop-i l = Turning l.initial.work l.work l.initial.numbers l.numbers l.many l.count l.i

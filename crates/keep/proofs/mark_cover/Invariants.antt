use Rattle.keep.specs.Parts.{CoverAsked}
use Rattle.keep.proofs.Marking.{Behind}
use Rattle.keep.proofs.mark_cover.Given as goal

abbrev pub invariant-loop-i : goal.invariant-loop-i
invariant-loop-i l = (a : CoverAsked l.cells l.crossing l.probe l.initial.work l.n) → Behind l.cells l.crossing l.probe l.initial.work l.n a l.work l.i

use Rattle.links.proofs.Climbing.{Climbing}
use Rattle.links.proofs.root.Given as goal

abbrev pub invariant-loop-q : goal.invariant-loop-q
invariant-loop-q l = Climbing l.initial.parent l.parent l.at l.i l.p l.q

abbrev pub decreases-loop-q : goal.decreases-loop-q
decreases-loop-q l = l.i

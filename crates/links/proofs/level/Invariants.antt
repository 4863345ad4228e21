use Rattle.links.proofs.Levelling.{Levelling}
use Rattle.links.proofs.level.Given as goal

abbrev pub invariant-loop-i : goal.invariant-loop-i
invariant-loop-i l = Levelling l.initial.parent l.parent l.i l.one

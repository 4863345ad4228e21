use Rattle.octree.specs.Parts.{roots_of}
use Rattle.balance.proofs.Levelling.{Balanced}
use Rattle.balance.proofs.balance.Given as goal

abbrev pub invariant-loop-j : goal.invariant-loop-j
invariant-loop-j l = Balanced (roots_of l.d) l.d.levels l.initial.s l.s l.j

use Rattle.octree.specs.Parts.{roots_of}
use Rattle.answers.proofs.Clearing.{Cleared}
use Rattle.answers.proofs.clear.Given as goal

abbrev pub invariant-loop-j : goal.invariant-loop-j
invariant-loop-j l = Cleared (roots_of l.d) l.d.levels l.initial.s l.s l.j

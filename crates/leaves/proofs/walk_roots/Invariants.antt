use Rattle.leaves.proofs.Walking.{Going}
use Rattle.leaves.proofs.walk_roots.Given as goal

abbrev pub invariant-loop-n : goal.invariant-loop-n
invariant-loop-n l = Going l.split l.d l.initial.out l.out l.n l.tally

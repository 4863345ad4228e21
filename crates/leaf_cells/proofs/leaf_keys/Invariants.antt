use Rattle.leaf_cells.proofs.Keys.{Keying}
use Rattle.leaf_cells.proofs.leaf_keys.Given as goal

abbrev pub invariant-loop-n : goal.invariant-loop-n
invariant-loop-n l = Keying l.initial.work l.list l.leaves l.work l.n

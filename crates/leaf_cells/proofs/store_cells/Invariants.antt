use Rattle.leaf_cells.proofs.Storing.{Emitting}
use Rattle.leaf_cells.proofs.store_cells.Given as goal

abbrev pub invariant-loop-leaf : goal.invariant-loop-leaf
invariant-loop-leaf l = Emitting l.split l.d l.keys.entries.now l.keys.count l.list l.leaves l.initial.out l.out l.leaf-index l.at

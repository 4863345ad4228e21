use Prim.Native.Nat.{◌+◌}
use Rattle.octree.specs.Sweep.{one}
use Rattle.balance.specs.Parts.{Merged}
use Rattle.balance.proofs.merge_row.Given as goal

abbrev pub invariant-loop-x : goal.invariant-loop-x
invariant-loop-x l = Merged l.initial.seen l.seen l.x (λ k. one l.s (l.o + k))

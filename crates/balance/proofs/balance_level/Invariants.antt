use Prim.Native.Nat.{◌*◌}
use Rattle.octree.specs.Sweep.{Swept}
use Rattle.balance.specs.Parts.{balanced_byte}
use Rattle.balance.proofs.balance_level.Given as goal

abbrev pub invariant-loop-q : goal.invariant-loop-q
invariant-loop-q l = Swept l.initial.s l.s l.v.start (l.q * l.v.nx) (balanced_byte l.initial.s l.v)

use Prim.Native.Nat.{◌*◌}
use Rattle.octree.specs.Parts.{below_of}
use Rattle.octree.specs.Sweep.{Swept}
use Rattle.answers.specs.Parts.{cleared_byte}
use Rattle.answers.proofs.clear_level.Given as goal

abbrev pub invariant-loop-r : goal.invariant-loop-r
invariant-loop-r l = Swept l.initial.s l.s (below_of l.v).start (l.r * (below_of l.v).nx) (cleared_byte l.initial.s l.v)

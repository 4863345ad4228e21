use mathlib.Core.Bool.{◌&&◌}
use Prim.Native.Nat.{◌+◌, ◌/◌}
use Rattle.lists.specs.Tests.{bit}
use Rattle.octree.specs.Sweep.{one}
use Rattle.octree.specs.Sweep.{Swept}
use Rattle.answers.proofs.clear_row.Given as goal

abbrev pub invariant-loop-x : goal.invariant-loop-x
invariant-loop-x l = Swept l.initial.s l.s l.i l.x (λ k. bit (one l.initial.s (l.i + k) && one l.initial.s (l.q + k / 2)))

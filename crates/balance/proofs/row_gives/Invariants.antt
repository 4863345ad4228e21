use mathlib.Core.Path.{◌≡◌}
use mathlib.Core.Bool.{not, ◌&&◌, false}
use Prim.Native.Nat.{◌+◌}
use Rattle.lists.specs.Tests.{any}
use Rattle.octree.specs.Sweep.{one}
use Rattle.balance.specs.Parts.{touched_of}
use Rattle.balance.proofs.row_gives.Given as goal

abbrev pub invariant-loop-x : goal.invariant-loop-x
invariant-loop-x l = any l.x (λ k. not (one l.s (l.i + k)) && touched_of l.seen k) ≡ false

use mathlib.Core.Path.{◌≡◌}
use mathlib.Core.Bool.{false}
use Rattle.lists.specs.Tests.{any}
use Rattle.space.specs.Levels.{depth, size}
use Rattle.octants.specs.Judge.{unsteady}
use Rattle.octree.specs.Parts.{roots_of}
use Rattle.balance.proofs.is_graded.Given as goal

abbrev pub invariant-loop-j : goal.invariant-loop-j
invariant-loop-j l = any l.j (λ k. any (size (depth (roots_of l.d) k)) (unsteady (roots_of l.d) l.s k)) ≡ false

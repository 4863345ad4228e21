use mathlib.Core.Path.{◌≡◌}
use mathlib.Core.Bool.{false}
use Prim.Native.Nat.{◌/◌, ◌%◌}
use Rattle.lists.specs.Tests.{any}
use Rattle.space.specs.Space.{pos}
use Rattle.octree.specs.Parts.{roots_of, place_of, tree_of}
use Rattle.octree_cells.specs.Cells.{leaf_at}
use Rattle.lookup.proofs.leaf_around.Given as goal

abbrev pub invariant-loop-n : goal.invariant-loop-n
invariant-loop-n l = any l.n (λ n. leaf_at l.t.roots.levels (roots_of l.t.roots) (tree_of l.t.roots l.t.split.now) l.o.level (place_of l.o) (pos (n % 2) (n / 2 % 2) (n / 4))) ≡ false

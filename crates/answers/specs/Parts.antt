-- The reading of the crossing answers: only those count that stand under crossed octants. Definitions only.
use Rattle.std.specs.Prelude.{◌&&◌, List, ℕ, ◌+◌}
use Rattle.lists.specs.Tests.{bit}
use Rattle.octants.specs.Oct.{parent}
use Rattle.octants.specs.Table.{place}
use Rattle.octree.specs.Parts.{counts_of, below_of, in_level}
use Rattle.octree.specs.Sweep.{one}
use Rattle.octree.specs.declared.Level.{Level}

-- octant r of the level below v: crossed, under an octant that counts
unfoldable pub cleared_byte : List ℕ → Level → ℕ → ℕ
cleared_byte s v r = bit (one s ((below_of v).start + r) && in_level s v (parent (place (counts_of (below_of v)) r)))

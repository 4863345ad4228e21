-- The roots of a table, its levels and its octants, by value. Definitions only.
use Rattle.std.specs.Prelude.{◌≡◌, Bool, List, ℕ, ◌+◌, ◌*◌, ◌≤◌, length}
use Rattle.space.specs.Space.{ax, ay, az, Pos, pos}
use Rattle.space.specs.Levels.{most_levels, most_roots, most_along, Counts, depth, size, off}
use Rattle.octants.specs.Oct.{Tree}
use Rattle.octants.specs.Table.{at, read}
use Rattle.octree.specs.declared.Roots.{Roots}
use Rattle.octree.specs.declared.Octant.{Octant}
use Rattle.octree.specs.declared.Level.{Level}

abbrev pub roots_of : Roots → Pos
roots_of d = pos d.nx d.ny d.nz

abbrev pub place_of : Octant → Pos
place_of o = pos o.x o.y o.z

abbrev pub counts_of : Level → Pos
counts_of v = pos v.nx v.ny v.nz

-- the tree that a table over these roots holds
abbrev pub tree_of : Roots → List ℕ → Tree
tree_of d s = read (roots_of d) d.levels s

-- a table of this length is one over these roots and levels
pub record Covers (d : Roots) (len : ℕ) : Type 0 where
  pub roots : Counts most_roots (roots_of d)
  pub levels : d.levels ≤ most_levels
  pub octants : len ≡ off (roots_of d) d.levels

-- ---- a level of the table

-- the level k levels down from the roots
unfoldable pub level_at : Pos → ℕ → Level
level_at d k = record { start = off d k; nx = depth d k ax; ny = depth d k ay; nz = depth d k az }

-- the level below, which follows in the table
abbrev pub below_of : Level → Level
below_of v = record { start = v.start + size (counts_of v); nx = 2 * v.nx; ny = 2 * v.ny; nz = 2 * v.nz }

-- the table holds the level
abbrev pub Held : List ℕ → Level → Type 0
Held s v = v.start + size (counts_of v) ≤ length s

-- whether the octant of a level is split, or crossed
abbrev pub in_level : List ℕ → Level → Pos → Bool
in_level s v x = at s v.start (counts_of v) x

-- a level with counts as the limits allow, and the level below it in the table
pub record Stacked (s : List ℕ) (v : Level) : Type 0 where
  pub counts : Counts most_along (counts_of v)
  pub room : Held s (below_of v)

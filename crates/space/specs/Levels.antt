-- The levels of an octree as counts: their bounds, how many octants a level has, and where it begins in a table. Definitions only.
use Rattle.std.specs.Prelude.{ℕ, zero, suc, ◌+◌, ◌*◌, ◌^◌, ◌≤◌}
use Rattle.space.specs.Space.{Axis, ax, ay, az, Pos}

-- the most levels below the roots, roots along an axis, and octants of all levels but the finest
abbrev pub most_levels : ℕ
most_levels = 5

abbrev pub most_roots : ℕ
most_roots = 64

abbrev pub most_octants : ℕ
most_octants = 1048576

-- so the most octants along an axis, of the finest level
abbrev pub most_along : ℕ
most_along = 2048

-- from 1 to so many along each axis
pub record Counts (most : ℕ) (n : Pos) : Type 0 where
  pub some : (a : Axis) → 1 ≤ n a
  pub few : (a : Axis) → n a ≤ most

-- how many octants stand along each axis, k levels down from d roots
abbrev pub depth : Pos → ℕ → Pos
depth d k a = d a * 2 ^ k

-- and in all
abbrev pub size : Pos → ℕ
size n = n ax * n ay * n az

-- where the level k levels down begins: after all the octants of the levels above it. A table of l levels has off d l octants
unfoldable pub off : Pos → ℕ → ℕ
off d zero = 0
off d (suc k) = off d k + size (depth d k)

-- What the parts of the plan ask, and what is known of a plan that is ready. Definitions only.
use Rattle.std.specs.Prelude.{◌≡◌, ℕ, ◌≤◌}
use Rattle.space.specs.Space.{Axis, pos}
use Rattle.space.specs.Levels.{most_levels, most_roots, most_octants, Counts, off}
use Rattle.plan.specs.Step.{most_lattice}
use Rattle.plan.specs.Vertices.{dims_of}
use Rattle.plan.specs.declared.Plan.{Plan}
use Rattle.plan.specs.declared.Scale.{Scale}

-- what a scale never exceeds
pub record Small (s : Scale) : Type 0 where
  pub most_small : s.most ≤ most_lattice
  pub least_small : s.least ≤ 2
  pub units_small : s.units ≤ 64

-- what the dimensions and the levels of a grid never exceed
pub record Few (nx ny nz levels : ℕ) : Type 0 where
  pub dims_few : (a : Axis) → pos nx ny nz a ≤ most_lattice
  pub levels_few : levels ≤ most_levels

-- a plan that is ready: at most 128 units of a lattice or 64 roots of an octree along each axis, and N in its bound
pub record Planful (p : Plan) : Type 0 where
  pub dims : Counts most_lattice (dims_of p)
  pub roots : 1 ≤ p.levels → Counts most_roots (dims_of p)
  pub levels_few : p.levels ≤ most_levels
  pub octants_are : p.octants ≡ off (dims_of p) p.levels
  pub octants_few : p.octants ≤ most_octants

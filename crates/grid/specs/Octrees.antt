-- What the split table of a grid is: a graded octree, or refused with 7 (rule 11.8).
use Rattle.std.specs.Prelude.{◌≡◌, true, List, ℕ, Float, length}
use Rattle.lists.specs.Tables.{all_at_most}
use Rattle.octants.specs.Oct.{Tree}
use Rattle.octants.specs.Table.{read}
use Rattle.octree_cells.specs.Leaf.{GradedOctree}
use Rattle.plan.specs.Step.{plan_of}
use Rattle.plan.specs.Vertices.{dims_of}
use Rattle.plan.specs.declared.Bounds.{Bounds}
use Rattle.plan.specs.declared.Plan.{Plan}
use Rattle.plan.specs.declared.Planned.TheVariants as planned

-- the octree that a plan and a split table make
abbrev pub split_tree : Plan → List ℕ → Tree
split_tree p s = read (dims_of p) p.levels s

abbrev pub IsGradedOctree : Plan → List ℕ → Type 0
IsGradedOctree p s = GradedOctree p.levels (dims_of p) (split_tree p s)

-- there is a plan, and the table has a byte 0 or 1 for each of its octants, yet is no graded octree
pub record NoGradedOctree (b : Bounds) (c : Float) (levels : ℕ) (s : List ℕ) : Type 0 where
  pub plan : Plan
  pub ready : plan_of b c levels ≡ planned.Ready plan
  pub long : length s ≡ plan.octants
  pub bytes : all_at_most 1 s ≡ true
  pub ungraded : IsGradedOctree plan s → ⊥

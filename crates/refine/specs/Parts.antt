-- What the parts of refine ask and give. Definitions only.
use Rattle.std.specs.Prelude.{◌≡◌, true, List, ℕ, ◌≤◌, length}
use Rattle.lists.specs.Tables.{all_at_most}
use Rattle.space.specs.Levels.{most_octants, off}
use Rattle.octants.specs.Table.{refine_of, total}
use Rattle.octree.specs.Parts.{roots_of, Covers}
use Rattle.octree.specs.declared.Roots.{Roots}

-- tables of one length, for these roots and levels, with answers of 0 and 1
pub record TableAsked (d : Roots) (C o : List ℕ) : Type 0 where
  pub covers : 1 ≤ d.levels → Covers d (length C)
  pub octants : length C ≡ off (roots_of d) d.levels
  pub few : length C ≤ most_octants
  pub same : length o ≡ length C
  pub answers : all_at_most 1 C ≡ true

-- the split table of the answers, and its number of ones
pub record TableDone (d : Roots) (C : List ℕ) (r : ℕ) (o' : List ℕ) : Type 0 where
  pub split : o' ≡ refine_of (roots_of d) d.levels C
  pub ones : r ≡ total (refine_of (roots_of d) d.levels C)

-- What the parts of the code ask and give: the list of leaves, and what a walk over them leaves behind.
use Rattle.std.specs.Prelude.{◌≡◌, List, [], ◌∷◌, ℕ, ◌+◌, ◌-◌, ◌*◌, ◌/◌, ◌%◌, ◌^◌, ◌≤◌, ◌<◌, length}
use Rattle.std.proofs.lemmas.List.Edits.{sets}
use Rattle.space.specs.Space.{Pos}
use Rattle.octants.specs.Oct.{Tree}
use Rattle.octants.specs.Table.{place}
use Rattle.octree.specs.Parts.{roots_of, place_of, tree_of}
use Rattle.octree.specs.declared.Roots.{Roots}
use Rattle.octree.specs.declared.Octant.{Octant}
use Rattle.octree_cells.specs.Cells.{Cell, down, below, child, two, over_leaves, leaf_cells}
use Rattle.octree_cells.specs.Leaf.{Reached}
use Rattle.vertex_keys.specs.Keys.{most_keys, key_of, triple_of}
use Rattle.sides.specs.Parts.{cells_in}
use Rattle.leaves.specs.declared.Tally.{Tally}

-- a leaf in one number: its level above the key of its place; and back
abbrev pub packed : ℕ → Pos → ℕ
packed m x = m * most_keys + key_of x

abbrev pub level_in : ℕ → ℕ
level_in z = z / most_keys

abbrev pub place_in : ℕ → Pos
place_in z = triple_of (z % most_keys)

abbrev pub alone : ℕ → Pos → List ℕ
alone m x = packed m x ∷ []

-- all leaves, in the crate's order
abbrev pub leaf_list : ℕ → Pos → Tree → List ℕ
leaf_list l d t = over_leaves l d t alone

-- what the children n - 1 down to 0 of an octant give, from (1, 1, 1) down, the x bit lowest
unfoldable pub kids : {A : Type 0} → Tree → (ℕ → Pos → List A) → ℕ → Pos → ℕ → List A
kids t f m x n = down n (λ c. below t f m (child x (place two c)))

module _ (s : List ℕ) (d : Roots) where
  abbrev pub leaves_in : List ℕ
  leaves_in = leaf_list d.levels (roots_of d) (tree_of d s)

  abbrev pub giving : ℕ → Pos → List Cell
  giving = leaf_cells d.levels (roots_of d) (tree_of d s)

  -- below an octant, and below its first n children
  abbrev pub leaves_below : Octant → List ℕ
  leaves_below o = below (tree_of d s) alone o.level (place_of o)

  abbrev pub cells_below : Octant → List Cell
  cells_below o = below (tree_of d s) giving o.level (place_of o)

  abbrev pub leaves_of : Octant → ℕ → List ℕ
  leaves_of o n = kids (tree_of d s) alone (o.level - 1) (place_of o) n

  abbrev pub cells_of : Octant → ℕ → List Cell
  cells_of o n = kids (tree_of d s) giving (o.level - 1) (place_of o) n

  -- an octant that the walk comes to, and what it is still to give
  pub record Left (o : Octant) (list : List ℕ) (emitted : List Cell) (tally : Tally) : Type 0 where
    pub reached : Reached d.levels (roots_of d) (tree_of d s) o.level (place_of o)
    pub few : tally.leaves + length list < 2 ^ 64
    pub less : tally.cells + length emitted < 2 ^ 64

  -- how many leaves there are, and how many cells
  pub record Counted (r : Tally) : Type 0 where
    pub of_leaves : r.leaves ≡ length leaves_in
    pub of_cells : r.cells ≡ length (cells_in s d)

abbrev pub nothing : Tally
nothing = record { leaves = 0; cells = 0 }

-- leaves are listed as far as there is room; over an empty table their cells are counted
pub record Walked (before : List ℕ) (tally : Tally) (list : List ℕ) (emitted : List Cell) (r : Tally) (after : List ℕ) : Type 0 where
  pub met : r.leaves ≡ tally.leaves + length list
  pub stored : after ≡ sets before tally.leaves list
  pub most : r.cells ≤ tally.cells + length emitted
  pub counted : length before ≡ 0 → r.cells ≡ tally.cells + length emitted

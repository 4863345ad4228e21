-- What the parts of the code ask and give: what a listed leaf stands for, the keys of its vertices, the numbers of its cells.
use Rattle.std.specs.Prelude.{◌≡◌, List, [], ◌∷◌, ℕ, ◌+◌, ◌*◌, ◌%◌, ◌^◌, ◌≤◌, ◌<◌, length, get_or, take, drop}
use Rattle.lists.specs.Runs.{run}
use Rattle.space.specs.Space.{Axis, Pos}
use Rattle.space.specs.Levels.{most_levels, most_along}
use Rattle.sorting.specs.Numbers.{rank}
use Rattle.vertex_keys.specs.Keys.{most_keys, key_of}
use Rattle.octants.specs.Oct.{Tree, width}
use Rattle.octree.specs.Parts.{roots_of, tree_of}
use Rattle.octree.specs.declared.Roots.{Roots}
use Rattle.octree_cells.specs.Cells.{Cell, over_leaves, leaf_cells}
use Rattle.octree_cells.specs.Leaf.{IsLeaf}
use Rattle.octree_cells.specs.Vertices.{leaf_points}
use Rattle.leaves.specs.Parts.{level_in, place_in, leaves_in}

-- the leaf is within the bounds of a grid
pub record Placed (z : ℕ) : Type 0 where
  pub few : level_in z ≤ most_levels
  pub within : (a : Axis) → place_in z a * 2 ^ level_in z ≤ most_along

abbrev pub AllPlaced : List ℕ → ℕ → ℕ → Type 0
AllPlaced w list n = (j : ℕ) → j < n → Placed (get_or w (list + j) 0)

-- it is a leaf, and the cells that it gives
abbrev pub ListedIn : List ℕ → Roots → ℕ → Type 0
ListedIn s d z = IsLeaf d.levels (roots_of d) (tree_of d s) (level_in z) (place_in z)

abbrev pub cells_of : List ℕ → Roots → ℕ → List Cell
cells_of s d z = leaf_cells d.levels (roots_of d) (tree_of d s) (level_in z) (place_in z)

-- the key of its low corner: its place, in widths
abbrev pub low_in : ℕ → ℕ
low_in z = z % most_keys * width (level_in z)

-- a leaf's centre, and its corners from the high one down
unfoldable pub nine_keys : (k u v w : ℕ) → List ℕ
nine_keys k u v w =
    (k + u + v + w)
    ∷ (k + 2 * v + 2 * w + 2 * u) ∷ (k + 2 * v + 2 * w) ∷ (k + 2 * w + 2 * u) ∷ (k + 2 * w)
    ∷ (k + 2 * v + 2 * u) ∷ (k + 2 * v) ∷ (k + 2 * u) ∷ k ∷ []

unfoldable pub keys_of : List Pos → List ℕ
keys_of [] = []
keys_of (p ∷ ps) = key_of p ∷ keys_of ps

abbrev pub keys_in : ℕ → List ℕ
keys_in z = keys_of (leaf_points (level_in z) (place_in z))

-- the keys of n leaves listed from `list` on
abbrev pub keys_from : List ℕ → ℕ → ℕ → List ℕ
keys_from w list n = run n (λ j. keys_in (get_or w (list + j) 0)) 0

-- the keys of all leaves
abbrev pub leaf_keys : ℕ → Pos → Tree → List ℕ
leaf_keys l d t = keys_of (over_leaves l d t leaf_points)

-- a vertex' number among the first v keys
abbrev pub number_in : List ℕ → ℕ → Pos → ℕ
number_in w v p = rank (key_of p) (take v w)

-- the list of leaves stands in the work from `list` on
pub record Standing (s : List ℕ) (d : Roots) (w : List ℕ) (list leaves : ℕ) : Type 0 where
  pub fits : list + leaves ≤ length w
  pub many : leaves ≡ length (leaves_in s d)
  pub here : take leaves (drop list w) ≡ leaves_in s d

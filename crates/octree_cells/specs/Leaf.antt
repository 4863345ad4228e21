-- A leaf told by its ancestors, and the turn at a coarser side told by parities: what code asks in place of a search. And what it is that the
-- search for a turn ends at a corner.
use Rattle.std.specs.Prelude.{◌≡◌, Bool, true, cond, ◌&&◌, ◌||◌, ℕ, zero, suc, ◌+◌, ◌-◌, ◌%◌, ◌≤◌, eqb}
use Rattle.space.specs.Space.{Pos}
use Rattle.octants.specs.Oct.{Tree, In, Touch, Octree}
use Rattle.octree_cells.specs.Cells.{same, Face, turned, turns_to, up, descent, of_level}

-- the k ancestors above y, of level m, are split
unfoldable pub opened : Tree → ℕ → Pos → ℕ → Bool
opened t m y zero = true
opened t m y (suc k) = t (m + suc k) (up (suc k) y) && opened t m y k

-- y is the leaf that covers it
abbrev pub own : Tree → ℕ → Pos → ℕ → Bool
own t m y k = of_level m (descent t m y k)

-- a leaf of the tree
pub record IsLeaf (l : ℕ) (d : Pos) (t : Tree) (m : ℕ) (x : Pos) : Type 0 where
  pub fits : m ≤ l
  pub inside : In l d m x
  pub owns : own t m x (l - m) ≡ true

-- a graded octree by the leaves that cells are given for: those that touch are at most a level apart
pub record GradedOctree (l : ℕ) (d : Pos) (t : Tree) : Type 0 where
  pub octree : Octree l d t
  pub graded : (m n : ℕ) (x y : Pos) → IsLeaf l d t m x → IsLeaf l d t n y → Touch m x n y → m ≤ suc n

-- an octant that a walk from the roots comes to: under split ones up to its root
pub record Reached (l : ℕ) (d : Pos) (t : Tree) (m : ℕ) (x : Pos) : Type 0 where
  pub fits : m ≤ l
  pub inside : In l d m x
  pub under : opened t m x (l - m) ≡ true

-- the corner f of an octant at j is the centre of its parent
abbrev pub central : ℕ → ℕ → Bool
central f j = eqb (j % 2 + f) 1

-- where a coarser neighbour z, of the level above, has the centre of its face: by the parities of x on the two other axes
abbrev pub turn_at : ℕ → ℕ → ℕ
turn_at j k =
    cond (central 0 j && central 0 k) 0 (cond (central 1 j && central 0 k) 1 (cond (central 1 j && central 1 k) 2 (cond (central 0 j && central 1 k) 3 0)))

-- rule 4.7: one of a face's four corners is the point, so that the search for it never falls through, and the face is walked from it
pub record Found (v : Pos) (f : Face) : Type 0 where
  pub corner : (same f.p0 v || same f.p1 v || same f.p2 v || same f.p3 v) ≡ true
  pub walked : (turned (turns_to v f) f).p0 ≡ v

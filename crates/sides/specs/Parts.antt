-- What the parts of the code ask and give: what a leaf's sides are told by, from the definition of the cells, and how it is read from two
-- levels of the table.
use Rattle.std.specs.Prelude.{Bool, true, false, not, ◌||◌, List, ℕ, zero, suc, ◌+◌, ◌/◌, ◌-◌, ◌^◌, ◌≤◌, ◌<◌, eqb, length}
use Rattle.lists.specs.Tests.{bit}
use Rattle.space.specs.Space.{Axis, ax, ay, az, Pos, next, frame}
use Rattle.octants.specs.Oct.{Tree, Closed, hit}
use Rattle.octree.specs.Parts.{roots_of, place_of, counts_of, tree_of, Covers, level_at, Held, in_level}
use Rattle.octree.specs.declared.Roots.{Roots}
use Rattle.octree.specs.declared.Octant.{Octant}
use Rattle.octree.specs.declared.Level.{Level}
use Rattle.octree_cells.specs.Cells.{Cell, Face, face, face_centre, middle, turns_to, finer, Side, split, equal, coarser, border, side, reaches, stepped, leaf_cells, cells}
use Rattle.octree_cells.specs.Leaf.{IsLeaf, turn_at}
use Rattle.sides.specs.declared.Axis.{Axis as Along}
use Rattle.sides.specs.declared.Axis.TheVariants.{X, Y, Z}
use Rattle.sides.specs.declared.Beside.{Beside}
use Rattle.sides.specs.declared.Beside.TheVariants.{Split, Equal, Given, Coarser, Border}
use Rattle.sides.specs.declared.Sides.{Sides}
use Rattle.sides.specs.declared.Around.{Around}
use Rattle.sides.specs.declared.Spot.{Spot}

-- ---- an octree in its table

-- a split table that the grid takes: over few enough roots, with levels, whole, and graded
pub record Taken (s : List ℕ) (d : Roots) : Type 0 where
  pub covers : Covers d (length s)
  pub some : 1 ≤ d.levels
  pub graded : Closed d.levels (roots_of d) (tree_of d s)

-- a leaf of it, the cells that this leaf gives, and all cells
abbrev pub LeafIn : List ℕ → Roots → Octant → Type 0
LeafIn s d o = IsLeaf d.levels (roots_of d) (tree_of d s) o.level (place_of o)

abbrev pub cells_at : List ℕ → Roots → Octant → List Cell
cells_at s d o = leaf_cells d.levels (roots_of d) (tree_of d s) o.level (place_of o)

abbrev pub cells_in : List ℕ → Roots → List Cell
cells_in s d = cells d.levels (roots_of d) (tree_of d s)

-- ---- from the definition of the cells

abbrev pub edged : (Pos → Bool) → Face → Beside
edged fine f =
    Equal
    (record {
      e0 = fine (middle f.p0 f.p1);
      e1 = fine (middle f.p1 f.p2);
      e2 = fine (middle f.p2 f.p3);
      e3 = fine (middle f.p3 f.p0);
    })

abbrev pub told : (Pos → Bool) → ℕ → Pos → Axis → Bool → Side → Beside
told fine m x a s split = Split
told fine m x a false equal = Given
told fine m x a true equal = edged fine (face m x a true)
told fine m x a s (coarser n z) = Coarser (turns_to (face_centre (face n z a (not s))) (face m x a s))
told fine m x a s border = Border

abbrev pub beside_at : ℕ → Pos → Tree → ℕ → Pos → Axis → Bool → Beside
beside_at l d t m x a s = told (finer l d t m) m x a s (side l d t m x a s)

-- six sides, by axis and by end
abbrev pub six : (Axis → Bool → Beside) → Sides
six f = record { x0 = f ax false; x1 = f ax true; y0 = f ay false; y1 = f ay true; z0 = f az false; z1 = f az true }

unfoldable pub sides_at : ℕ → Pos → Tree → ℕ → Pos → Sides
sides_at l d t m x = six (beside_at l d t m x)

abbrev pub sides_of : List ℕ → Roots → Octant → Sides
sides_of s d o = sides_at d.levels (roots_of d) (tree_of d s) o.level (place_of o)

-- ---- as it is read

abbrev pub axis_of : Along → Axis
axis_of X = ax
axis_of Y = ay
axis_of Z = az

-- the octant at u along axis a, v along the next, w along the last is there and split; this one or the next
unfoldable pub split_in : List ℕ → Level → Axis → (u v w : ℕ) → Bool
split_in s k a u v w = hit (counts_of k) (in_level s k) (frame a u v w)

unfoldable pub either_in : List ℕ → Level → Axis → (u v w : ℕ) → Bool
either_in s k a u v w = split_in s k a u v w || split_in s k a (u + 1) v w

abbrev pub pick_side : Bool → Beside → Beside → Beside
pick_side true a b = a
pick_side false a b = b

-- the edges of the face from (0,0) on: along the next axis below, along the last above, and so around
unfoldable pub equal_in : List ℕ → Level → Axis → (u v w : ℕ) → Bool → Beside
equal_in s k a u v w high =
    pick_side high
    (Equal
    (record {
      e0 = either_in s k a u v (stepped false w);
      e1 = either_in s k a u (v + 1) w;
      e2 = either_in s k a u v (w + 1);
      e3 = either_in s k a u (stepped false v) w;
    }))
    Given

-- a leaf with n octants of its level along the axis
unfoldable pub beside_in : List ℕ → Around → ℕ → Axis → (u v w : ℕ) → Bool → Beside
beside_in s l n a u v w high =
    pick_side (reaches n high u)
    (pick_side (split_in s l.here a (stepped high u) v w) Split
    (pick_side (l.root || split_in s l.above a (stepped high u / 2) (v / 2) (w / 2)) (equal_in s l.here a u v w high) (Coarser (turn_at v w))))
    Border

-- the leaf at x, with n octants of its level along each axis
abbrev pub facing : List ℕ → Around → (n x : Pos) → Axis → Bool → Beside
facing s l n x a high = beside_in s l (n a) a (x a) (x (next a)) (x (next (next a))) high

-- a level of the table of l levels over d roots; the finest has no bytes
unfoldable pub level_of : Pos → ℕ → ℕ → Level
level_of d l zero = record { start = 0; nx = 0; ny = 0; nz = 0 }
level_of d l (suc m) = level_at d (l - suc m)

abbrev pub around_of : Pos → ℕ → ℕ → Around
around_of d l m = record { here = level_of d l m; above = level_of d l (suc m); root = eqb m l }

pub record HeldAround (s : List ℕ) (l : Around) : Type 0 where
  pub here : Held s l.here
  pub above : Held s l.above

pub record Near (p : Spot) : Type 0 where
  pub u_few : p.u < 2 ^ 32
  pub v_few : p.v < 2 ^ 32
  pub w_few : p.w < 2 ^ 32

-- how many cells a face gives: a split neighbour puts a finer vertex on each of the four edges
abbrev pub given_at : Beside → ℕ
given_at Split = 8
given_at (Equal e) = 4 + bit e.e0 + bit e.e1 + bit e.e2 + bit e.e3
given_at Given = 0
given_at (Coarser n) = 2
given_at Border = 2

unfoldable pub given_by : Sides → ℕ
given_by f = given_at f.x0 + given_at f.x1 + (given_at f.y0 + given_at f.y1) + (given_at f.z0 + given_at f.z1)

-- The lattice, as section 6 of the rules and the Rust's Lattice, coords, index and lattice_tetrahedra have it, on integer triples. Assumes
-- nothing: these are definitions. d are the dimensions.
use Rattle.std.specs.Prelude.{◌≡◌, Bool, cond, ◌&&◌, List, [], ◌∷◌, ◌++◌, ℕ, ◌+◌, ◌*◌, ◌-◌, ◌/◌, ◌%◌, ◌≤◌, eqb, leb}
use Rattle.lists.specs.Runs.{run}
use Rattle.space.specs.Space.{Axis, ax, ay, az, Pos, pos, frame, next}
use Rattle.octree_cells.specs.Cells.{Cell, cell, flat}

-- how many even and how many odd numbers there are from 0 to dims
abbrev pub evens : Pos → Pos
evens d = λ a. d a / 2 + 1

abbrev pub odds : Pos → Pos
odds d = λ a. (d a + 1) / 2

abbrev pub size : Pos → ℕ
size n = n ax * n ay * n az

-- a box of places, ascending, x fastest
unfoldable pub box_up : {A : Type 0} → Pos → (Pos → List A) → List A
box_up n f = run (n az) (λ k. run (n ay) (λ j. run (n ax) (λ i. f (pos i j k)) 0) 0) 0

-- the triple of a place among the even (e is 0) or the odd ones (e is 1)
abbrev pub doubled : ℕ → Pos → Pos
doubled e x = λ a. 2 * x a + e

-- every vertex: even triples first, then odd ones
unfoldable pub lattice_vertices : Pos → List Pos
lattice_vertices d = box_up (evens d) (λ x. doubled 0 x ∷ []) ++ box_up (odds d) (λ x. doubled 1 x ∷ [])

-- a vertex: a triple from 0 to dims, even along every axis or odd along every axis
abbrev pub LatticeVertex : Pos → Pos → Type 0
LatticeVertex d q = (a : Axis) → (q a ≤ d a) × (q a % 2 ≡ q ax % 2)

-- the place in a box of n along each axis
abbrev pub slot : Pos → Pos → ℕ
slot n x = x ax + (x ay + x az * n ay) * n ax

-- the number of a vertex
unfoldable pub index_of : Pos → Pos → ℕ
index_of d p =
    cond (eqb (p ax % 2) 0) (slot (evens d) (λ a. p a / 2)) (size (evens d) + slot (odds d) (λ a. p a / 2))

unfoldable pub in_range : Pos → Pos → Bool
in_range d p = leb (p ax) (d ax) && (leb (p ay) (d ay) && leb (p az) (d az))

-- the centre two further on along axis a, and the four corners of the face between, in axes a + 1, a + 2
abbrev pub opposite : Axis → Pos → Pos
opposite a c = frame a (c a + 2) (c (next a)) (c (next (next a)))

abbrev pub corner0 : Axis → Pos → Pos
corner0 a c = frame a (c a + 1) (c (next a) + 1) (c (next (next a)) + 1)

abbrev pub corner1 : Axis → Pos → Pos
corner1 a c = frame a (c a + 1) (c (next a) - 1) (c (next (next a)) + 1)

abbrev pub corner2 : Axis → Pos → Pos
corner2 a c = frame a (c a + 1) (c (next a) - 1) (c (next (next a)) - 1)

abbrev pub corner3 : Axis → Pos → Pos
corner3 a c = frame a (c a + 1) (c (next a) + 1) (c (next (next a)) - 1)

unfoldable pub complete : Pos → Axis → Pos → Bool
complete d a c =
    in_range d (opposite a c)
    && (in_range d (corner0 a c) && (in_range d (corner1 a c) && (in_range d (corner2 a c) && in_range d (corner3 a c))))

unfoldable pub octahedron : Axis → Pos → List Cell
octahedron a c =
    cell c (opposite a c) (corner0 a c) (corner1 a c)
    ∷ cell c (opposite a c) (corner1 a c) (corner2 a c)
    ∷ cell c (opposite a c) (corner2 a c) (corner3 a c)
    ∷ cell c (opposite a c) (corner3 a c) (corner0 a c)
    ∷ []

-- an octahedron is there whole or not at all
unfoldable pub axis_cells : Pos → Pos → Axis → List Cell
axis_cells d c a = cond (complete d a c) (octahedron a c) []

unfoldable pub centre_cells : Pos → Pos → List Cell
centre_cells d c = axis_cells d c ax ++ axis_cells d c ay ++ axis_cells d c az

-- each odd centre in order, each axis
unfoldable pub lattice_cells : Pos → List Cell
lattice_cells d = box_up (odds d) (λ x. centre_cells d (doubled 1 x))

-- ---- as tables

-- the cells by the numbers of their vertices
abbrev pub lattice_table : Pos → List ℕ
lattice_table d = flat (index_of d) (lattice_cells d)

-- What it is that the tables of a grid hold the whole of it: every cell and every vertex, nothing in part. n cells and v vertices; C, T and P are the
-- tables of cells, triples and points.
use Rattle.std.specs.Prelude.{◌≡◌, ◌≢◌, true, List, [], ◌∷◌, map, ℕ, ◌+◌, ◌*◌, ◌-◌, ◌/◌, ◌≤◌, ◌<◌, length, get_or, take}
use Rattle.lists.specs.Tables.{all_below}
use Rattle.space.specs.Space.{Axis, ax, ay, az, Pos, pos}
use Rattle.octree_cells.specs.Cells.{Cell}
use Rattle.vertex_keys.specs.Keys.{Before}
use Rattle.lattice.specs.Lattice.{evens, odds, size, LatticeVertex, index_of}
use Rattle.plan.specs.Vertices.{point_at, dims_of}
use Rattle.plan.specs.declared.Plan.{Plan}
use Rattle.grid.specs.Grid.{grid_cells, grid_vertices}
use Rattle.grid.specs.Step.{cell_count, vertex_count}

-- the vertices of cells, four a cell, in order
unfoldable pub corners_of : List Cell → List Pos
corners_of [] = []
corners_of (c ∷ D) = c.c0 ∷ c.c1 ∷ c.c2 ∷ c.c3 ∷ corners_of D

-- the three entries at a number, along the axes
abbrev pub along : Axis → ℕ
along ax = 0
along ay = 1
along az = 2

abbrev pub three_at : List ℕ → ℕ → Pos
three_at t j = λ a. get_or t (3 * j + along a) 0

-- an octree's vertices rise by x, then y, then z, and a cell names each of them
pub record OctreeVertices (n v : ℕ) (C T : List ℕ) : Type 0 where
  pub rise : (i j : ℕ) → i < j → j < v → Before (three_at T i) (three_at T j)
  pub used : (j : ℕ) → j < v → (i : ℕ) × (i < 4 * n) × (get_or C i 0 ≡ j)

-- how many octahedra of a lattice are whole: those along x, along y and along z
abbrev pub octahedra : Pos → ℕ
octahedra d = (odds d ax - 1) * (d ay / 2) * (d az / 2) + d ax / 2 * (odds d ay - 1) * (d az / 2) + d ax / 2 * (d ay / 2) * (odds d az - 1)

-- a lattice's are the even and the odd triples from 0 to dims, each at its number
pub record LatticeVertices (d : Pos) (v : ℕ) (T : List ℕ) : Type 0 where
  pub each : (j : ℕ) → j < v → LatticeVertex d (three_at T j)
  pub all : (q : Pos) → LatticeVertex d q → (index_of d q < v) × (three_at T (index_of d q) ≡ q)

pub record Whole (p : Plan) (s : List ℕ) (n v : ℕ) (C T P : List ℕ) : Type 0 where
  -- all cells and all vertices are counted, and there is an entry for each
  pub cells_all : n ≡ cell_count p s
  pub vertices_all : v ≡ vertex_count p s
  pub room : (4 * n ≤ length C) × (3 * v ≤ length T) × (3 * v ≤ length P)
  -- cell by cell, the four numbers are those of vertices that are there, and the triples at them are the cell's
  pub cells_below : all_below v (take (4 * n) C) ≡ true
  pub cells_stand : map (three_at T) (take (4 * n) C) ≡ corners_of (grid_cells p.levels (dims_of p) s)
  -- the triples are those of the vertices, in order and none twice
  pub vertices_stand : (j : ℕ) → j < v → three_at T j ≡ get_or (grid_vertices p.levels (dims_of p) s) j (pos 0 0 0)
  pub vertices_once : (i j : ℕ) → i < j → j < v → three_at T i ≢ three_at T j
  -- each point is that of its triple
  pub points_stand : (j : ℕ) → j < v → (a : Axis) → three_at P j a ≡ point_at p a (three_at T j a)
  -- and which vertices these are
  pub octree_vertices : 1 ≤ p.levels → OctreeVertices n v C T
  pub lattice_counts : p.levels ≡ 0 → (n ≡ 4 * octahedra (dims_of p)) × (v ≡ size (evens (dims_of p)) + size (odds (dims_of p)))
  pub lattice_vertices_lem : p.levels ≡ 0 → LatticeVertices (dims_of p) v T

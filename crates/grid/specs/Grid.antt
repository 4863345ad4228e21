-- The grid of a plan and a split table, octree or lattice: its cells, its vertices, and their numbers, as sections 4 to 6 of the rules have them. l are the levels, d
-- the dimensions, s is the split table.
use Rattle.std.specs.Prelude.{List, map, ℕ, zero, suc}
use Rattle.space.specs.Space.{Pos}
use Rattle.octants.specs.Table.{read}
use Rattle.octree_cells.specs.Cells.{Cell, cells, flat}
use Rattle.vertex_keys.specs.Keys.{key_of, triple_of}
use Rattle.sorting.specs.Numbers.{distinct_sorted, rank}
use Rattle.lattice.specs.Lattice.{lattice_cells, lattice_vertices, index_of}
use Rattle.plan.specs.Vertices.{triple_at, point_at, dims_of, spread}
use Rattle.plan.specs.declared.Plan.{Plan}

-- the cells: the lattice's for l = 0, else those of the leaves
unfoldable pub grid_cells : ℕ → Pos → List ℕ → List Cell
grid_cells zero d s = lattice_cells d
grid_cells (suc l) d s = cells (suc l) d (read d (suc l) s)

-- the distinct keys of the octree's vertices, which stand in the order of the triples
unfoldable pub vertex_keys : ℕ → Pos → List ℕ → List ℕ
vertex_keys l d s = distinct_sorted (flat key_of (cells l d (read d l s)))

unfoldable pub grid_vertices : ℕ → Pos → List ℕ → List Pos
grid_vertices zero d s = lattice_vertices d
grid_vertices (suc l) d s = map triple_of (vertex_keys (suc l) d s)

-- the number of a vertex
unfoldable pub vertex_number : ℕ → Pos → List ℕ → Pos → ℕ
vertex_number zero d s = index_of d
vertex_number (suc l) d s = λ q. rank (key_of q) (vertex_keys (suc l) d s)

-- ---- as tables

unfoldable pub cell_table : Plan → List ℕ → List ℕ
cell_table p s = flat (vertex_number p.levels (dims_of p) s) (grid_cells p.levels (dims_of p) s)

unfoldable pub triple_table : Plan → List ℕ → List ℕ
triple_table p s = spread triple_at (grid_vertices p.levels (dims_of p) s)

unfoldable pub point_table : Plan → List ℕ → List ℕ
point_table p s = spread (point_at p) (grid_vertices p.levels (dims_of p) s)

-- The cells of a grid by its tables: T holds the triples, three numbers a vertex, and C the cells, four numbers a cell.
use Rattle.std.specs.Prelude.{List, ℕ, ◌+◌, ◌*◌, get_or}
use Rattle.lists.specs.Runs.{sums}
use Rattle.space.specs.Space.{Axis, ax, ay, az}
use Rattle.plan.specs.declared.Plan.{Plan}
use Rattle.octants.specs.Oct.{width}
use Rattle.octree_cells.specs.Cells.{Cell, cell}
use Rattle.plan.specs.Vertices.{dims_of}
use Rattle.grid.specs.Whole.{three_at}
use Rattle.tiling.specs.Volume.{six_fold}

-- the cell i
abbrev pub cell_at : List ℕ → List ℕ → ℕ → Cell
cell_at T C i =
    cell (three_at T (get_or C (4 * i) 0)) (three_at T (get_or C (4 * i + 1) 0)) (three_at T (get_or C (4 * i + 2) 0)) (three_at T (get_or C (4 * i + 3) 0))

abbrev pub six_at : List ℕ → List ℕ → ℕ → ℕ
six_at T C i = six_fold (cell_at T C i)

-- over the first n cells
abbrev pub table_six : List ℕ → List ℕ → ℕ → ℕ
table_six T C n = sums n (six_at T C) 0

-- the sides of a plan's box in units, X, Y and Z: the dimensions times 2 · 2 ^ L
abbrev pub side_of : Plan → Axis → ℕ
side_of p a = dims_of p a * width p.levels

abbrev pub box_of : Plan → ℕ
box_of p = side_of p ax * side_of p ay * side_of p az

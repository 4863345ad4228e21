-- The viewer's file of a mesh: P is the table of points, C that of cells. All words have their high byte first.
use Rattle.std.specs.Prelude.{true, cond, List, ℕ, ◌+◌, ◌-◌, ◌*◌, ◌/◌, ◌%◌, eqb, get_or, replicate}
use Rattle.mesh.specs.Mesh.{points_of, cells_of}
use Rattle.lists.specs.Tables.{list_of}
use Rattle.words.specs.Words.{bytes_of}
use Rattle.components.specs.Numbers.{component_numbers}
use Rattle.vtk_layout.specs.Layout.{written}

-- the words of the cells: a four, and the four numbers of the cell
unfoldable pub led_word : List ℕ → ℕ → ℕ
led_word C j = cond (eqb (j % 5) 0) 4 (get_or C (j / 5 * 4 + j % 5 - 1) 0)

unfoldable pub led : List ℕ → List ℕ
led C = list_of (led_word C) (5 * cells_of C)

-- the type of a tetrahedron, once for each cell
abbrev pub types_of : ℕ → List ℕ
types_of n = replicate n 10

unfoldable pub vtk_file : List ℕ → List ℕ → List ℕ → List ℕ
vtk_file title P C =
    written title (points_of P) (cells_of C) (bytes_of true P) (bytes_of true (led C)) (bytes_of true (types_of (cells_of C)))
    (bytes_of true (component_numbers C (cells_of C)))

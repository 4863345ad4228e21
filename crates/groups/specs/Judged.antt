-- The refusals of a step that takes a mesh with a crossing answer for each cell. p is the length of the table of points, C the table of
-- cells, X that of answers, room the length of the work table, of which the step asks `a` entries a cell and `b` a point.
use Rattle.std.specs.Prelude.{List, ◌++◌, ℕ, ◌/◌, length}
use Rattle.refusals.specs.Rows.{Row}
use Rattle.refusals.specs.Causes.{each_rows, answer_rows}
use Rattle.mesh.specs.Mesh.{cells_of}
use Rattle.mesh.specs.Judged.{size_rows, name_rows}

unfoldable pub crossed_rows : ℕ → List ℕ → List ℕ → ℕ → ℕ → ℕ → List Row
crossed_rows p C X room a b =
    size_rows p (length C) room a b ++ (each_rows (cells_of C) (length X) ++ (answer_rows X ++ name_rows (p / 3) C))

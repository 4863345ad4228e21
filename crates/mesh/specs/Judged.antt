-- The refusals 4, 5 and 8 of a step that takes a mesh. p is the length of the table of points, C the table of cells and c its length;
-- room is the length of the work table, of which the step asks `a` entries a cell and `b` a point.
use Rattle.std.specs.Prelude.{not, List, [], ◌∷◌, ◌++◌, ℕ, ◌+◌, ◌*◌, ◌/◌, ◌%◌, eqb, ltb, length}
use Rattle.lists.specs.Tables.{all_below}
use Rattle.refusals.specs.Rows.{Row, ◌when◌}
use Rattle.refusals.specs.Causes.{work_rows}
use Rattle.mesh.specs.Mesh.{most}

-- more points or cells than the bound: n points, m cells
unfoldable pub count_rows : ℕ → ℕ → List Row
count_rows n m = 4 when ltb most n ∷ 4 when ltb most m ∷ []

-- tables that do not hold them whole
unfoldable pub whole_rows : ℕ → ℕ → List Row
whole_rows p c = 5 when not (eqb (p % 3) 0) ∷ 5 when not (eqb (c % 4) 0) ∷ []

-- the entries that the step asks of its work
abbrev pub need_of : ℕ → ℕ → ℕ → ℕ → ℕ
need_of a b p c = a * (c / 4) + b * (p / 3)

-- the lengths of the tables
unfoldable pub size_rows : ℕ → ℕ → ℕ → ℕ → ℕ → List Row
size_rows p c room a b = count_rows (p / 3) (c / 4) ++ (whole_rows p c ++ work_rows room (need_of a b p c))

-- a cell names a point that is not there: n points
unfoldable pub name_rows : ℕ → List ℕ → List Row
name_rows n C = 8 when not (all_below n C) ∷ []

-- all of them
unfoldable pub mesh_rows : ℕ → List ℕ → ℕ → ℕ → ℕ → List Row
mesh_rows p C room a b = size_rows p (length C) room a b ++ name_rows (p / 3) C

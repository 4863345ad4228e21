-- The refusals 4, 5, 8 and 17 of a step that takes a mesh by its faces, with 16 work entries a cell. p is the length of the table of
-- points, C the table of cells, room the length of the work table.
use Rattle.std.specs.Prelude.{not, List, [], ◌∷◌, ◌++◌, ℕ}
use Rattle.lists.specs.Tests.{any}
use Rattle.refusals.specs.Rows.{Row, ◌when◌}
use Rattle.mesh.specs.Mesh.{cells_of}
use Rattle.mesh.specs.Judged.{mesh_rows}
use Rattle.face_theory.specs.Faces.{cell_at, differ}

-- a cell names one point twice
unfoldable pub twice_rows : List ℕ → List Row
twice_rows C = 17 when any (cells_of C) (λ q. not (differ (cell_at C q))) ∷ []

-- all of them
unfoldable pub face_rows : ℕ → List ℕ → ℕ → List Row
face_rows p C room = mesh_rows p C room 16 0 ++ twice_rows C

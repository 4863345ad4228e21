-- `write_mesh`: the writer whose file is `mesh_file` (rule 9.2). P is the table of points, C that of cells, o the file's table and w the work table, as
-- lent.
use Rattle.std.specs.Prelude.{List, ℕ, ◌+◌, ◌*◌, Result}
use Rattle.refusals.specs.declared.CountError.{CountError}
use Rattle.mesh.specs.Mesh.{points_of, cells_of}
use Rattle.file_steps.specs.Writer.{Writes}
use Rattle.mesh_layout.specs.Layout.{mesh_file}

-- the bytes that the file of a mesh takes
abbrev pub bytes_for : List ℕ → List ℕ → ℕ
bytes_for P C = 12 + 12 * points_of P + 20 * cells_of C

abbrev pub WriteDone : (P C o w : List ℕ) → Result ℕ CountError → (o' w' : List ℕ) → Type 0
WriteDone P C o w r o' w' = Writes 2 (bytes_for P C) (mesh_file P C) P C o w r o' w'

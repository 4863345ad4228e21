-- `write_vtk`: the writer whose file is `vtk_file` with our title (rule R1.4). P is the table of points, C that of cells.
use Rattle.std.specs.Prelude.{List, ℕ, ◌+◌, ◌*◌, length, Result}
use Rattle.refusals.specs.declared.CountError.{CountError}
use Rattle.mesh.specs.Mesh.{points_of, cells_of}
use Rattle.decimal.specs.Digits.{digits}
use Rattle.file_steps.specs.Writer.{Writes}
use Rattle.vtk_layout.specs.Texts.{our_title}
use Rattle.vtk_layout.specs.File.{vtk_file}

-- the bytes that the file of a mesh of p points and n cells takes
abbrev pub bytes_of_counts : ℕ → ℕ → ℕ
bytes_of_counts p n = 165 + 12 * p + 28 * n + length (digits p) + 3 * length (digits n) + length (digits (5 * n))

abbrev pub vtk_bytes : List ℕ → List ℕ → ℕ
vtk_bytes P C = bytes_of_counts (points_of P) (cells_of C)

abbrev pub WriteDone : (P C o w : List ℕ) → Result ℕ CountError → (o' w' : List ℕ) → Type 0
WriteDone P C o w r o' w' = Writes 2 (vtk_bytes P C) (vtk_file our_title P C) P C o w r o' w'

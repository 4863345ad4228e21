-- A writer of meshes, whatever its format (rules 9.2, 11.3, 12.1): it asks e work entries a point; n are the bytes that the file of the mesh takes, and
-- f is the file. P is the table of points, C that of cells, o the file's table and w the work table, as lent.
use Rattle.std.specs.Prelude.{◌≡◌, cond, List, [], ◌∷◌, ◌++◌, ℕ, ◌*◌, eqb, length, Result, Ok, Err}
use Rattle.lists.specs.Tables.{front, zeroed, on}
use Rattle.refusals.specs.Rows.{Row, first}
use Rattle.refusals.specs.Causes.{room_rows}
use Rattle.refusals.specs.Refusals.{refused}
use Rattle.refusals.specs.declared.CountError.{CountError}
use Rattle.refusals.specs.declared.CountError.TheVariants.{Short}
use Rattle.mesh.specs.Mesh.{points_of}
use Rattle.mesh.specs.Judged.{mesh_rows}

-- the refusals with their causes, in their order: those of the mesh, and then no room for the file
abbrev pub write_rows : ℕ → ℕ → List ℕ → List ℕ → List ℕ → List ℕ → List Row
write_rows e n P C o w = mesh_rows (length P) C (length w) 0 e ++ room_rows (length o) n

abbrev pub write_number : ℕ → ℕ → List ℕ → List ℕ → List ℕ → List ℕ → ℕ
write_number e n P C o w = first (write_rows e n P C o w)

-- the outcome of this number, with n bytes
unfoldable pub written_by : ℕ → ℕ → Result ℕ CountError
written_by number n = cond (eqb number 0) (Ok n) (cond (eqb number 9) (Err (Short n)) (refused number))

-- the file in front of its table and e work entries a point zero on an answer, else as lent
pub record Writes (e n : ℕ) (f P C o w : List ℕ) (r : Result ℕ CountError) (o' w' : List ℕ) : Type 0 where
  pub answer : r ≡ written_by (write_number e n P C o w) n
  pub file : o' ≡ on (0 ∷ []) (write_number e n P C o w) (front n f o) o
  pub work : w' ≡ on (0 ∷ []) (write_number e n P C o w) (zeroed (e * points_of P) w) w

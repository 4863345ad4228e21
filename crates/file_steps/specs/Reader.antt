-- A reader of meshes, whatever its format (rules 11.3, 11.11, 12.1). rows are its refusals by the file alone; b is the file, s says where the mesh
-- stands in it; x is the table of points, y that of cells and w the work table, as lent.
use Rattle.std.specs.Prelude.{◌≡◌, true, not, List, [], ◌∷◌, ◌++◌, ℕ, ◌*◌, ◌/◌, length, Result}
use Rattle.lists.specs.Tables.{front, zeroed, on}
use Rattle.refusals.specs.Rows.{Row, ◌when◌, first}
use Rattle.refusals.specs.Causes.{room_rows}
use Rattle.refusals.specs.Refusals.{named}
use Rattle.mesh.specs.Judged.{count_rows, name_rows}
use Rattle.file_components.specs.Blocks.{points_in, cells_in, right_numbers}
use Rattle.file_components.specs.declared.Blocks.{Blocks}
use Rattle.file_steps.specs.Loaded.{loaded_by}
use Rattle.file_steps.specs.declared.Loaded.{Loaded}
use Rattle.file_steps.specs.declared.LoadError.{LoadError}

-- by the mesh that the file has: too many points or cells, a cell that names a point not there
unfoldable pub content_rows : List ℕ → Blocks → List Row
content_rows b s = count_rows s.p s.n ++ name_rows s.p (cells_in b s)

-- no room for p points and n cells in tables of these lengths, the work table's too
unfoldable pub table_rows : ℕ → ℕ → ℕ → ℕ → ℕ → List Row
table_rows points cells work p n = room_rows (points / 3) p ++ (room_rows (cells / 4) n ++ room_rows work (2 * p))

-- component numbers that the writer does not give
unfoldable pub number_rows : List ℕ → Blocks → List Row
number_rows b s = 13 when not (right_numbers b s) ∷ []

-- all of them, in their order
abbrev pub read_rows : List Row → List ℕ → Blocks → List ℕ → List ℕ → List ℕ → List Row
read_rows rows b s x y w = rows ++ (table_rows (length x) (length y) (length w) s.p s.n ++ number_rows b s)

-- the call's number; its outcome
abbrev pub read_number : List Row → List ℕ → Blocks → List ℕ → List ℕ → List ℕ → ℕ
read_number rows b s x y w = first (read_rows rows b s x y w)

-- its rows are those of causes; points and cells in front of their tables on an answer, 2 work entries a point zero on an answer and on 13,
-- else as lent
pub record Reads (rows : List Row) (b : List ℕ) (s : Blocks) (x y w : List ℕ) (r : Result Loaded LoadError) (x' y' w' : List ℕ) : Type 0 where
  pub causes : named rows ≡ true
  pub answer : r ≡ loaded_by (read_number rows b s x y w) s.p s.n
  pub points : x' ≡ on (0 ∷ []) (read_number rows b s x y w) (front (3 * s.p) (points_in b s) x) x
  pub cells : y' ≡ on (0 ∷ []) (read_number rows b s x y w) (front (4 * s.n) (cells_in b s) y) y
  pub work : w' ≡ on (0 ∷ 13 ∷ []) (read_number rows b s x y w) (zeroed (2 * s.p) w) w

-- What the parts of the code ask and give.
use Rattle.std.specs.Prelude.{◌≡◌, List, ℕ, ◌*◌, length, replicate}
use Rattle.mesh.specs.Mesh.{points_of, Cells}
use Rattle.components.specs.Parts.{Fits}
use Rattle.file_components.specs.Blocks.{cells_in}
use Rattle.file_components.specs.Parts.{Stands}
use Rattle.file_components.specs.declared.Blocks.{Blocks}

-- a file that is not refused by itself
pub record Loadable (b : List ℕ) (s : Blocks) : Type 0 where
  pub stands : Stands b s
  pub cells : Cells (cells_in b s) s.p

-- a mesh that is not refused, and tables of exactly the length that its file and its component numbers need
pub record Storable (n : ℕ) (P C o w : List ℕ) : Type 0 where
  pub whole : length P ≡ 3 * points_of P
  pub fits : Fits C w
  pub points : length w ≡ 2 * points_of P
  pub long : length o ≡ n

-- the file stands in its table, and the work table is left zero
pub record Placed (f o' w w' : List ℕ) : Type 0 where
  pub file : o' ≡ f
  pub zero : w' ≡ replicate (length w) 0

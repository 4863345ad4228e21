-- What the promises of writers and readers speak of: a mesh that a file can hold, room for it, and tables that it was read into.
use Rattle.std.specs.Prelude.{◌≡◌, true, List, ℕ, ◌*◌, ◌/◌, ◌≤◌, length, Result}
use Rattle.lists.specs.Tables.{all_below, front, zeroed}
use Rattle.mesh.specs.Mesh.{points_of, cells_of, Cells}
use Rattle.file_steps.specs.Loaded.{done}
use Rattle.file_steps.specs.declared.Loaded.{Loaded}
use Rattle.file_steps.specs.declared.LoadError.{LoadError}

-- whole points of any bits, and cells that name them
pub record Mesh (P C : List ℕ) : Type 0 where
  pub points : length P ≡ 3 * points_of P
  pub cells : Cells C (points_of P)
  pub bits : all_below 4294967296 P ≡ true

-- tables of these lengths have room for p points and n cells
pub record Room (points cells work p n : ℕ) : Type 0 where
  pub for_points : p ≤ points / 3
  pub for_cells : n ≤ cells / 4
  pub for_work : 2 * p ≤ work

-- the mesh was read into tables, and the work is zero
pub record Back (P C x y w : List ℕ) (r : Result Loaded LoadError) (x' y' w' : List ℕ) : Type 0 where
  pub answer : r ≡ done (points_of P) (cells_of C)
  pub points : x' ≡ front (length P) P x
  pub cells : y' ≡ front (length C) C y
  pub work : w' ≡ zeroed (2 * points_of P) w

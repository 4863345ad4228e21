-- What the parts of the code ask and give.
use Rattle.std.specs.Prelude.{◌≡◌, Bool, List, ℕ, ◌+◌, ◌*◌, ◌≤◌, length, replicate}
use Rattle.std.proofs.lemmas.List.Edits.{sets}
use Rattle.mesh.specs.Mesh.{cells_of}
use Rattle.words.specs.Words.{bytes_of}
use Rattle.words.specs.Parts.{CellsThere}
use Rattle.components.specs.Numbers.{component_numbers}
use Rattle.file_components.specs.Blocks.{right_numbers}
use Rattle.file_components.specs.declared.Blocks.{Blocks}

-- the bytes of the cells are there, and those of all blocks
abbrev pub CellsStand : List ℕ → Blocks → Type 0
CellsStand b s = CellsThere s.stride b s.cells s.n

pub record Stands (b : List ℕ) (s : Blocks) : Type 0 where
  pub points : s.points + 12 * s.p ≤ length b
  pub cells : CellsStand b s
  pub numbers : s.numbers + 4 * s.m ≤ length b

-- r tells whether the numbers in a file are those of its cells, and the work table is left zero
pub record Told (b : List ℕ) (s : Blocks) (w w' : List ℕ) (r : Bool) : Type 0 where
  pub right : r ≡ right_numbers b s
  pub zero : w' ≡ replicate (length w) 0

-- the numbers of the cells stand in the file, and the work table is left zero
pub record Noted (big : Bool) (C : List ℕ) (at : ℕ) (o o' w w' : List ℕ) : Type 0 where
  pub numbers : o' ≡ sets o at (bytes_of big (component_numbers C (cells_of C)))
  pub zero : w' ≡ replicate (length w) 0

-- A mesh as a file has it: b is the list of the file's bytes, s says where its points, cells and component numbers stand.
use Rattle.std.specs.Prelude.{Bool, List, ℕ, ◌*◌}
use Rattle.lists.specs.Tables.{same}
use Rattle.words.specs.Words.{words_at, cells_at}
use Rattle.components.specs.Numbers.{component_numbers}
use Rattle.file_components.specs.declared.Blocks.{Blocks}

-- three words a point, four a cell, one a component number
abbrev pub points_in : List ℕ → Blocks → List ℕ
points_in b s = words_at s.big b s.points (3 * s.p)

abbrev pub cells_in : List ℕ → Blocks → List ℕ
cells_in b s = cells_at s.big s.stride b s.cells s.n

abbrev pub numbers_in : List ℕ → Blocks → List ℕ
numbers_in b s = words_at s.big b s.numbers s.m

-- the component numbers are those that the writer gives, and as many (rule 9.5)
abbrev pub right_numbers : List ℕ → Blocks → Bool
right_numbers b s = same (numbers_in b s) (component_numbers (cells_in b s) s.n)

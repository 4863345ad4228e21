-- What the parts of the code ask and give. P is the table of points, C that of cells.
use Rattle.std.specs.Prelude.{◌≡◌, true, List, [], ◌∷◌, ◌++◌, ℕ, ◌+◌, ◌*◌, length, get_or, replicate}
use Rattle.std.proofs.lemmas.List.Edits.{sets}
use Rattle.mesh.specs.Mesh.{points_of, cells_of}
use Rattle.words.specs.Words.{bytes_of}
use Rattle.components.specs.Numbers.{component_numbers}
use Rattle.decimal.specs.Digits.{digits}
use Rattle.vtk_layout.specs.Texts.{version_line, our_title, feed, dataset_lines, float_line, cells_word, space, types_word, data_word, scalar_lines}
use Rattle.vtk_layout.specs.File.{led, types_of}

-- the words of cell i: a four, and its four numbers
unfoldable pub led_cell : List ℕ → ℕ → List ℕ
led_cell C i = 4 ∷ get_or C (4 * i) 0 ∷ get_or C (4 * i + 1) 0 ∷ get_or C (4 * i + 2) 0 ∷ get_or C (4 * i + 3) 0 ∷ []

-- each block with the header lines before it, in the pieces that are stored
unfoldable pub points_part : List ℕ → List ℕ
points_part P = version_line ++ ((our_title ++ feed) ++ ((dataset_lines ++ (digits (points_of P) ++ float_line)) ++ bytes_of true P))

unfoldable pub cells_part : List ℕ → List ℕ
cells_part C = (cells_word ++ (digits (cells_of C) ++ space)) ++ (digits (5 * cells_of C) ++ (feed ++ bytes_of true (led C)))

unfoldable pub types_part : ℕ → List ℕ
types_part n = (types_word ++ (digits n ++ feed)) ++ bytes_of true (types_of n)

unfoldable pub numbers_part : List ℕ → List ℕ
numbers_part C = (data_word ++ (digits (cells_of C) ++ scalar_lines)) ++ (bytes_of true (component_numbers C (cells_of C)) ++ feed)

-- the last part stands in the file, and the work table is left zero
pub record Ended (C : List ℕ) (at : ℕ) (o o' w w' : List ℕ) : Type 0 where
  pub stored : o' ≡ sets o at (numbers_part C)
  pub zero : w' ≡ replicate (length w) 0

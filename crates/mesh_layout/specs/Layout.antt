-- The mesh file (rule 9.1): three sections, each after the count of its entries, in words whose low byte is first.
-- b is the list of a file's bytes; an entry of a section has w words: 3 a point, 4 a cell, 1 a component number.
use Rattle.std.specs.Prelude.{Bool, false, ◌||◌, List, ◌++◌, ℕ, ◌+◌, ◌-◌, ◌*◌, ◌/◌, min, ltb, length}
use Rattle.mesh.specs.Mesh.{cells_of}
use Rattle.words.specs.Words.{bytes4, bytes_of, word_at}
use Rattle.components.specs.Numbers.{component_numbers}
use Rattle.file_components.specs.declared.Blocks.{Blocks}

-- ---- as it is written

-- a section: how many entries its words are, and the words
unfoldable pub section : ℕ → List ℕ → List ℕ
section w words = bytes4 false (length words / w) ++ bytes_of false words

-- a file of points, of cells and of the numbers in its third section
unfoldable pub encode : List ℕ → List ℕ → List ℕ → List ℕ
encode P C N = section 3 P ++ (section 4 C ++ section 1 N)

-- the file of a mesh, whose third section has the component numbers (rule 9.2)
abbrev pub mesh_file : List ℕ → List ℕ → List ℕ
mesh_file P C = encode P C (component_numbers C (cells_of C))

-- ---- as it is read

-- how many entries the section at a place announces; how many of them are there whole; whether the file ends before all of them are, or inside the
-- count (rule 9.4)
abbrev pub count_at : List ℕ → ℕ → ℕ
count_at b at = word_at false b at

unfoldable pub whole_at : ℕ → List ℕ → ℕ → ℕ
whole_at w b at = min (count_at b at) ((length b - (at + 4)) / (4 * w))

unfoldable pub cut_at : ℕ → List ℕ → ℕ → Bool
cut_at w b at = ltb (length b) (at + 4) || ltb (whole_at w b at) (count_at b at)

-- where a section ends; where the second starts, the third, and what follows it
unfoldable pub end_of : ℕ → List ℕ → ℕ → ℕ
end_of w b at = at + 4 + 4 * (w * count_at b at)

abbrev pub second : List ℕ → ℕ
second b = end_of 3 b 0

abbrev pub third : List ℕ → ℕ
third b = end_of 4 b (second b)

abbrev pub end : List ℕ → ℕ
end b = end_of 1 b (third b)

-- where a file has its mesh
unfoldable pub blocks_of : List ℕ → Blocks
blocks_of b = record {
  p = count_at b 0;
  n = count_at b (second b);
  m = count_at b (third b);
  points = 4;
  cells = second b + 4;
  numbers = third b + 4;
  stride = 4;
  big = false;
}

-- The texts of the viewer's file, set out once for writer and reader.
use Rattle.std.specs.Prelude.{List, ℕ}
use Rattle.decimal.specs.Text.{text_of}

-- the first line; the title line follows
unfoldable pub version_line : List ℕ
version_line = text_of "# vtk DataFile Version 3.0\n"

-- the title that the writer gives
unfoldable pub our_title : List ℕ
our_title = text_of "cover mesh"

unfoldable pub feed : List ℕ
feed = text_of "\n"

-- behind the title line; the number of points follows
unfoldable pub dataset_lines : List ℕ
dataset_lines = text_of "BINARY\nDATASET UNSTRUCTURED_GRID\nPOINTS "

-- the points follow, 12 bytes each
unfoldable pub float_line : List ℕ
float_line = text_of " float\n"

-- the number of cells follows, and then a space, five times that, a line feed, and the cells, 20 bytes each
unfoldable pub cells_word : List ℕ
cells_word = text_of "\nCELLS "

unfoldable pub space : List ℕ
space = text_of " "

-- the number of cells follows, and then a line feed and their types, 4 bytes each
unfoldable pub types_word : List ℕ
types_word = text_of "\nCELL_TYPES "

-- the number of cells follows, and then two lines and the component numbers, 4 bytes each, and a line feed
unfoldable pub data_word : List ℕ
data_word = text_of "\nCELL_DATA "

unfoldable pub scalar_lines : List ℕ
scalar_lines = text_of "\nSCALARS component int 1\nLOOKUP_TABLE default\n"

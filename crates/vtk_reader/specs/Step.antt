-- `read_vtk` (rules R1.5 to R1.10). b is the file, x the table of points, y that of cells and w the work table, as lent.
use Rattle.std.specs.Prelude.{Bool, true, false, not, List, [], ◌∷◌, ◌++◌, ℕ, ◌+◌, ◌*◌, eqb, replicate, Result, Ok, Err}
use Rattle.lists.specs.Tables.{list_of, same}
use Rattle.refusals.specs.Rows.{Row, ◌when◌}
use Rattle.refusals.specs.Refusals.{as_number}
use Rattle.refusals.specs.declared.Refusal.{Refusal}
use Rattle.words.specs.Words.{word_at, words_at}
use Rattle.file_components.specs.declared.Blocks.{Blocks}
use Rattle.file_steps.specs.Reader.{content_rows, Reads}
use Rattle.file_steps.specs.declared.Loaded.{Loaded}
use Rattle.file_steps.specs.declared.LoadError.{LoadError}
use Rattle.vtk_layout.specs.Layout.{located_of}
use Rattle.vtk_layout.specs.declared.Layout.{Layout}

-- ---- where a layout has its mesh

-- a cell is five words, of which the first leads it
unfoldable pub blocks_of : Layout → Blocks
blocks_of l = record {
  p = l.p;
  n = l.n;
  m = l.n;
  points = l.points;
  cells = l.cells + 4;
  numbers = l.numbers;
  stride = 5;
  big = true;
}

-- the words that lead the cells, and their types
unfoldable pub leads_in : List ℕ → ℕ → ℕ → List ℕ
leads_in b n at = list_of (λ i. word_at true b (at + 20 * i)) n

abbrev pub types_in : List ℕ → ℕ → ℕ → List ℕ
types_in b n at = words_at true b at n

-- a layout that is not found is of no points and no cells
unfoldable pub layout_of : Result Layout Refusal → Layout
layout_of (Ok l) = l
layout_of (Err why) = record { p = 0; n = 0; points = 0; cells = 0; types = 0; numbers = 0 }

-- ---- the refusals

-- reading from the front stopped with the number k
unfoldable pub stopped : ℕ → Result Layout Refusal → Bool
stopped k (Ok l) = false
stopped k (Err why) = eqb (as_number why) k

-- a byte departs from the layout, or the file ends before one does; bytes follow the last line feed
unfoldable pub layout_rows : Result Layout Refusal → List Row
layout_rows k = 14 when stopped 14 k ∷ 11 when stopped 11 k ∷ 12 when stopped 12 k ∷ []

-- a cell is not led by a four, or is not of type 10
unfoldable pub shape_rows : List ℕ → Layout → List Row
shape_rows b l =
    15 when not (same (leads_in b l.n l.cells) (replicate l.n 4)) ∷ 15 when not (same (types_in b l.n l.types) (replicate l.n 10)) ∷ []

-- by the blocks, where the layout is found; and by the file alone
unfoldable pub body_rows : List ℕ → Layout → List Row
body_rows b l = shape_rows b l ++ content_rows b (blocks_of l)

unfoldable pub file_rows : Result Layout Refusal → List ℕ → List Row
file_rows k b = layout_rows k ++ body_rows b (layout_of k)

abbrev pub ReadDone : (b x y w : List ℕ) → Result Loaded LoadError → (x' y' w' : List ℕ) → Type 0
ReadDone b x y w r x' y' w' = Reads (file_rows (located_of b) b) b (blocks_of (layout_of (located_of b))) x y w r x' y' w'

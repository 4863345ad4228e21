-- `read_mesh` (rules 9.3 to 9.5, 11.11). b is the file, x the table of points, y that of cells and w the work table, as lent.
use Rattle.std.specs.Prelude.{List, [], ◌∷◌, ◌++◌, ℕ, ltb, length, Result}
use Rattle.refusals.specs.Rows.{Row, ◌when◌}
use Rattle.file_steps.specs.Reader.{content_rows, Reads}
use Rattle.file_steps.specs.declared.Loaded.{Loaded}
use Rattle.file_steps.specs.declared.LoadError.{LoadError}
use Rattle.mesh_layout.specs.Layout.{cut_at, second, third, end, blocks_of}

-- by the lengths of the sections: the file ends inside one of them, or goes on behind the last
unfoldable pub section_rows : List ℕ → List Row
section_rows b = 11 when cut_at 3 b 0 ∷ 11 when cut_at 4 b (second b) ∷ 11 when cut_at 1 b (third b) ∷ 12 when ltb (end b) (length b) ∷ []

-- by the file alone
unfoldable pub file_rows : List ℕ → List Row
file_rows b = section_rows b ++ content_rows b (blocks_of b)

abbrev pub ReadDone : (b x y w : List ℕ) → Result Loaded LoadError → (x' y' w' : List ℕ) → Type 0
ReadDone b x y w r x' y' w' = Reads (file_rows b) b (blocks_of b) x y w r x' y' w'

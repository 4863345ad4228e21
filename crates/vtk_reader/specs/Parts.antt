-- What the parts of the code ask and give.
use Rattle.std.specs.Prelude.{true, not, List, [], ◌∷◌, ℕ, ◌+◌, replicate}
use Rattle.lists.specs.Tables.{all_below, same}
use Rattle.refusals.specs.Rows.{Row, ◌when◌}
use Rattle.words.specs.Words.{cells_at}
use Rattle.vtk_reader.specs.Step.{leads_in}

-- the rows that look at n cells from a place on, with a bound for what they name
unfoldable pub cell_rows : List ℕ → ℕ → ℕ → ℕ → List Row
cell_rows b bound n at =
    15 when not (same (leads_in b n at) (replicate n 4)) ∷ 8 when not (all_below bound (cells_at true 5 b (at + 4) n)) ∷ []

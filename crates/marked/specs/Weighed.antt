-- The marked cells as their verdicts leave them: rules 7.8 and 7.9. P is the table of points, C that of cells, n the number of cells.
use Rattle.std.specs.Prelude.{Bool, true, false, cond, ◌&&◌, List, [], ℕ, Float, length}
use Rattle.lists.specs.Runs.{run, those}
use Rattle.mesh.specs.Mesh.{cell_of, in_order, exchanged}
use Rattle.mesh.specs.declared.Cell.{Cell}
use Rattle.volume.specs.Volume.{verdict_at}
use Rattle.volume.specs.declared.Verdict.{Verdict}
use Rattle.volume.specs.declared.Verdict.TheVariants.{Kept, Exchanged, Dropped}

-- a cell after its verdict: as it is, with vertices 0 and 1 exchanged, or gone
unfoldable pub shaped : Verdict → Cell → List ℕ
shaped (Kept v) k = in_order k
shaped (Exchanged v) k = in_order (exchanged k)
shaped (Dropped v) k = []

unfoldable pub is_dropped : Verdict → Bool
is_dropped (Kept v) = false
is_dropped (Exchanged v) = false
is_dropped (Dropped v) = true

-- what the cell i gives to the mesh, where it is marked
unfoldable pub shape_at : Bool → Float → List ℕ → List ℕ → ℕ → List ℕ
shape_at marked least P C i = cond marked (shaped (verdict_at P C i least) (cell_of C i)) []

-- whether it is marked, and dropped
unfoldable pub drops_at : Bool → Float → List ℕ → List ℕ → ℕ → Bool
drops_at marked least P C i = marked && is_dropped (verdict_at P C i least)

-- the cells that stay, in order, four vertices each
unfoldable pub final_cells : (ℕ → Bool) → Float → List ℕ → List ℕ → ℕ → List ℕ
final_cells mark least P C n = run n (λ i. shape_at (mark i) least P C i) 0

-- how many marked cells are dropped
unfoldable pub dropped_count : (ℕ → Bool) → Float → List ℕ → List ℕ → ℕ → ℕ
dropped_count mark least P C n = length (those (λ i. drops_at (mark i) least P C i) n)

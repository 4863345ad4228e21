-- What Cover makes of each cell (rule R3.5), by the same definitions as keeping: cover_mark tells whether the cell is marked (rule 7.5), and its
-- verdict (rule 7.8) whether it stays. P is the table of points, C that of cells, X that of crossing answers, Q that of probe answers.
use Rattle.std.specs.Prelude.{Bool, cond, List, ℕ, Float}
use Rattle.lists.specs.Tables.{list_of}
use Rattle.mesh.specs.Mesh.{cells_of}
use Rattle.volume.specs.Volume.{least_of, verdict_at}
use Rattle.volume.specs.declared.Verdict.{Verdict}
use Rattle.volume.specs.declared.Verdict.TheVariants.{Kept, Exchanged, Dropped}
use Rattle.keep.specs.Marked.{cover_mark}

-- 1 for a cell that stays, 2 for one that is dropped
unfoldable pub verdict_mark : Verdict → ℕ
verdict_mark (Kept v) = 1
verdict_mark (Exchanged v) = 1
verdict_mark (Dropped v) = 2

-- and 0 for one that is not marked
unfoldable pub mark_by : Bool → Verdict → ℕ
mark_by marked v = cond marked (verdict_mark v) 0

-- those of all cells
unfoldable pub marks_of : Float → List ℕ → List ℕ → List ℕ → List ℕ → List ℕ
marks_of c P C X Q = list_of (λ i. mark_by (cover_mark C X Q (cells_of C) i) (verdict_at P C i (least_of c))) (cells_of C)

use mathlib.Core.Path.{sym, ◌∙◌}
use mathlib.Core.Bool.{true≢false}
use borrow.Author.Tests.{leb-true, leb-false, lt-leb}
use Rattle.file_steps.proofs.Readers.{no_points, no_cells, work_told}
use Rattle.file_steps.proofs.has_room.Goals as goal
use Rattle.file_steps.proofs.has_room.Goals.{then-p-points, else-p-points}

pub returns-then-n-cells : goal.returns-then-n-cells
returns-then-n-cells c =
    elim c.if-p-points.branch [ then-p-points w ↦ work_told _ _ _ _ _ w.if-p-points.true (leb-true _ _ (sym w.value-is ∙ c.if-n-cells.true)) | else-p-points w ↦ absurd (true≢false (sym c.if-n-cells.true ∙ w.value-is ∙ lt-leb _ _ w.if-p-points.false)) ]

pub returns-else-n-cells : goal.returns-else-n-cells
returns-else-n-cells c =
    elim c.if-p-points.branch [ then-p-points w ↦ c.if-n-cells.false ∙ no_cells _ _ _ _ _ w.if-p-points.true (leb-false _ _ (sym w.value-is ∙ c.if-n-cells.false)) | else-p-points w ↦ c.if-n-cells.false ∙ no_points _ _ _ _ _ w.if-p-points.false ]

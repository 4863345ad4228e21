use mathlib.Core.Path.{ap, ◌∙◌}
use Prim.Native.Nat.{ℕ}
use lib.ListN.{replicate}
use Rattle.marks.proofs.WaysOut.{short, all_told}
use Rattle.marks.proofs.tell.Goals as goal

pub returns-then-marks-many : goal.returns-then-marks-many
returns-then-marks-many c =
    let s = c.args in
    (short s.c s.points.now s.cells.now s.crossing.now s.probe.now s.marks.now c.if-marks-many.true, c.fill.ensures.after (λ y e. e))

pub returns : goal.returns
returns c =
    let s = c.args in (
      all_told s.c s.points.now s.cells.now s.crossing.now s.probe.now s.marks.now c.if-marks-many.false c.least_volume-least.ensures c.mark_inside.ensures c.mark_cells-answer.ensures,
      c.fill-2.ensures.after (λ y e. e) ∙ ap (λ (k : ℕ). replicate k 0) c.mark_inside.auto.work,
    )

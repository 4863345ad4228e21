use mathlib.Core.Path.{refl, ◌∙◌}
use Rattle.marks.proofs.Storing.{corners_in, not_marked, is_marked}
use Rattle.marks.proofs.mark_at.Goals as goal

pub returns-then-work-n-eq0 : goal.returns-then-work-n-eq0
returns-then-work-n-eq0 c =
    let s = c.args in
    not_marked s.points.now s.cells.now s.work.now s.n s.i s.least c.if-work-n-eq0.true

pub corners_at-requires : goal.corners_at-requires
corners_at-requires c = corners_in _ _ _ _ _ c.requires c.cell_at-cell.ensures

pub returns : goal.returns
returns c =
    let s = c.args in
    is_marked s.points.now s.cells.now s.work.now s.n s.i s.least c.if-work-n-eq0.false c.cell_at-cell.ensures
    (c.mark_of.ensures ∙ rw (c.verdict_on.ensures, c.corners_at.ensures) refl)

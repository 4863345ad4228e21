use mathlib.Core.Path.{◌∙◌}
use Rattle.marked.proofs.WaysOut.{kept_is, cells_are, cells_asked, points_are, short_points, short_cells, nothing, all_kept}
use Rattle.marked.proofs.keep_marked.Goals as goal

pub returns-then-kept_points-used : goal.returns-then-kept_points-used
returns-then-kept_points-used c = short_points _ _ _ _ _ c.tally-counts.ensures.points (kept_is _ _ _ _ _ _ _ c.tally-counts.ensures) c.if-kept_points-used.true

pub returns-then-kept_cells-kept : goal.returns-then-kept_cells-kept
returns-then-kept_cells-kept c = short_cells _ _ _ _ _ c.tally-counts.ensures.points (kept_is _ _ _ _ _ _ _ c.tally-counts.ensures) c.if-kept_points-used.false c.if-kept_cells-kept.true

pub returns-then-kept-eq0 : goal.returns-then-kept-eq0
returns-then-kept-eq0 c = nothing _ _ _ _ _ c.tally-counts.ensures.points (kept_is _ _ _ _ _ _ _ c.tally-counts.ensures) c.if-kept_points-used.false c.if-kept_cells-kept.false c.if-kept-eq0.true

pub store_cells-requires : goal.store_cells-requires
store_cells-requires c = cells_asked _ _ _ _ _ _ _ c.tally-counts.ensures _ c.if-kept_cells-kept.false

pub returns : goal.returns
returns c = all_kept _ _ _ _ _ c.tally-counts.ensures.points (kept_is _ _ _ _ _ _ _ c.tally-counts.ensures) c.if-kept_points-used.false c.if-kept_cells-kept.false c.tally-counts.ensures.dropped c.if-kept-eq0.false (points_are _ _ _ _ _ _ _ c.tally-counts.ensures _ _ c.if-kept_points-used.false c.store_points.ensures) (c.store_cells.ensures ∙ cells_are _ _ _ _ _ _ _ c.tally-counts.ensures)

use Rattle.coverage.proofs.Summing.{no_cells, no_kept, no_dropped, counts_fit, room, no_room}
use Rattle.coverage.proofs.add_counts.Goals as goal

pub returns-in_err-cells : goal.returns-in_err-cells
returns-in_err-cells c = rw c.from_residual.ensures (no_cells _ _ (no_room _ _ c.in_err-cells.ensures))

pub returns-in_err-kept : goal.returns-in_err-kept
returns-in_err-kept c = rw c.from_residual-in_err-kept.ensures (no_kept _ _ c.count.ensures (no_room _ _ c.in_err-kept.ensures))

pub returns-in_err-dropped : goal.returns-in_err-dropped
returns-in_err-dropped c = rw c.from_residual-in_err-dropped.ensures (no_dropped _ _ c.count-2.ensures (no_room _ _ c.in_err-dropped.ensures))

pub returns : goal.returns
returns c =
    let n = c.in_ok-cells.ensures in
    let k = c.in_ok-kept.ensures in
    let d = c.in_ok-dropped.ensures in
    rw (n.1, k.1, d.1) (counts_fit _ _ c.count.ensures c.count-2.ensures (room _ _ n.0) (room _ _ k.0) (room _ _ d.0))

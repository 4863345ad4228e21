use mathlib.Core.Path.{sym}
use Rattle.std.proofs.lemmas.Result.{err_from_is_err_and}
use lib.Seq.{length-take-le}
use Rattle.marks.proofs.WaysOut.{refused, work_fits, asked, told}
use Rattle.marks.proofs.marks.Goals as goal

pub returns-in_err-judge_cover : goal.returns-in_err-judge_cover
returns-in_err-judge_cover c =
    let p = err_from_is_err_and c.from_residual.result c.from_residual.ensures.1 in
    rw (p.1, p.2) (refused _ _ _ _ _ _ _ c.in_err-judge_cover.ensures)

pub slice_bounds-tell-end : goal.slice_bounds-tell-end
slice_bounds-tell-end c =
    let s = c.args in
    work_fits s.c s.points.now s.cells.now s.crossing.now s.probe.now s.marks.now s.work.now (sym c.in_ok-judge_cover.ensures)

pub slice_bounds-tell-end-2 : goal.slice_bounds-tell-end-2
slice_bounds-tell-end-2 c =
    let s = c.args in
    sym (length-take-le _ _ (work_fits s.c s.points.now s.cells.now s.crossing.now s.probe.now s.marks.now s.work.now (sym c.in_ok-judge_cover.ensures)))

pub tell-requires : goal.tell-requires
tell-requires c =
    let s = c.args in
    asked s.c s.points.now s.cells.now s.crossing.now s.probe.now s.marks.now s.work.now (sym c.in_ok-judge_cover.ensures)

pub returns : goal.returns
returns c =
    let s = c.args in
    told s.c s.points.now s.cells.now s.crossing.now s.probe.now s.marks.now s.work.now (sym c.in_ok-judge_cover.ensures) c.tell.ensures.0 c.tell.ensures.1

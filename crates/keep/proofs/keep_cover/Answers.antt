use mathlib.Core.Path.{sym}
use Rattle.std.proofs.lemmas.Result.{err_from_is_err_and}
use lib.Seq.{length-take-le}
use Rattle.keep.proofs.WaysOut.{cover_fits, front_fits, front_sized, need_fits, rest_marked, work_zero, refused, kept, cover_low}
use Rattle.keep.proofs.keep_cover.Goals as goal

pub returns-in_err-judge_cover : goal.returns-in_err-judge_cover
returns-in_err-judge_cover c =
    let p = err_from_is_err_and c.from_residual.result c.from_residual.ensures.1 in
    rw (p.1, p.2) (refused _ _ _ _ _ _ _ _ c.in_err-judge_cover.ensures (cover_low _ _ _ _ _ _ _))

pub slice_bounds-mark_inside-end : goal.slice_bounds-mark_inside-end
slice_bounds-mark_inside-end c = front_fits _ _ _ (cover_fits _ _ _ _ _ _ _ (sym c.in_ok-judge_cover.ensures)).mesh

pub slice_bounds-mark_inside-end-2 : goal.slice_bounds-mark_inside-end-2
slice_bounds-mark_inside-end-2 c = sym (length-take-le _ _ (front_fits _ _ _ (cover_fits _ _ _ _ _ _ _ (sym c.in_ok-judge_cover.ensures)).mesh))

pub mark_inside-requires : goal.mark_inside-requires
mark_inside-requires c =
    let s = c.args in
    let f = cover_fits _ _ _ _ _ _ _ (sym c.in_ok-judge_cover.ensures) in
    record { sized = front_sized s.points.now s.cells.now s.work.now f.mesh; probes = f.probes }

pub slice_bounds-keep_rest-end : goal.slice_bounds-keep_rest-end
slice_bounds-keep_rest-end c =
    let s = c.args in
    let f = (cover_fits _ _ _ _ _ _ _ (sym c.in_ok-judge_cover.ensures)).mesh in
    need_fits s.points.now s.cells.now s.work.now f c.mark_inside.new.work c.mark_inside.auto.work

pub slice_bounds-keep_rest-end-2 : goal.slice_bounds-keep_rest-end-2
slice_bounds-keep_rest-end-2 c =
    let s = c.args in
    let f = (cover_fits _ _ _ _ _ _ _ (sym c.in_ok-judge_cover.ensures)).mesh in
    sym (length-take-le _ _ (need_fits s.points.now s.cells.now s.work.now f c.mark_inside.new.work c.mark_inside.auto.work))

pub returns : goal.returns
returns c =
    let s = c.args in
    let z = sym c.in_ok-judge_cover.ensures in
    let f = (cover_fits _ _ _ _ _ _ _ z).mesh in
    let k = c.keep_rest.ensures in
    kept _ _ _ _ _ _ _ _ z (rest_marked s.points.now s.cells.now s.work.now f c.mark_inside.new.work c.mark_inside.auto.work c.mark_inside.ensures k)
    (work_zero s.points.now s.cells.now s.work.now f c.mark_inside.new.work c.mark_inside.auto.work k.zero)

use mathlib.Core.Path.{sym}
use Rattle.std.proofs.lemmas.Result.{err_from_is_err_and}
use lib.Seq.{length-take-le}
use Rattle.keep.proofs.WaysOut.{crust_fits, front_fits, front_sized, need_fits, rest_marked, work_zero, refused, kept, crust_low}
use Rattle.keep.proofs.keep_crust.Goals as goal

pub returns-in_err-judge_crust : goal.returns-in_err-judge_crust
returns-in_err-judge_crust c =
    let p = err_from_is_err_and c.from_residual.result c.from_residual.ensures.1 in
    rw (p.1, p.2) (refused _ _ _ _ _ _ _ _ c.in_err-judge_crust.ensures (crust_low _ _ _ _ _))

pub slice_bounds-mark_crust-end : goal.slice_bounds-mark_crust-end
slice_bounds-mark_crust-end c = front_fits _ _ _ (crust_fits _ _ _ _ _ (sym c.in_ok-judge_crust.ensures)).mesh

pub slice_bounds-mark_crust-end-2 : goal.slice_bounds-mark_crust-end-2
slice_bounds-mark_crust-end-2 c = sym (length-take-le _ _ (front_fits _ _ _ (crust_fits _ _ _ _ _ (sym c.in_ok-judge_crust.ensures)).mesh))

pub mark_crust-requires : goal.mark_crust-requires
mark_crust-requires c =
    let s = c.args in
    let f = crust_fits _ _ _ _ _ (sym c.in_ok-judge_crust.ensures) in
    (front_sized s.points.now s.cells.now s.work.now f.mesh, f.answers)

pub slice_bounds-keep_rest-end : goal.slice_bounds-keep_rest-end
slice_bounds-keep_rest-end c =
    let s = c.args in
    let f = (crust_fits _ _ _ _ _ (sym c.in_ok-judge_crust.ensures)).mesh in
    need_fits s.points.now s.cells.now s.work.now f c.mark_crust.new.work c.mark_crust.auto.work

pub slice_bounds-keep_rest-end-2 : goal.slice_bounds-keep_rest-end-2
slice_bounds-keep_rest-end-2 c =
    let s = c.args in
    let f = (crust_fits _ _ _ _ _ (sym c.in_ok-judge_crust.ensures)).mesh in
    sym (length-take-le _ _ (need_fits s.points.now s.cells.now s.work.now f c.mark_crust.new.work c.mark_crust.auto.work))

pub returns : goal.returns
returns c =
    let s = c.args in
    let z = sym c.in_ok-judge_crust.ensures in
    let f = (crust_fits _ _ _ _ _ z).mesh in
    let k = c.keep_rest.ensures in
    kept _ _ _ _ _ _ _ _ z (rest_marked s.points.now s.cells.now s.work.now f c.mark_crust.new.work c.mark_crust.auto.work c.mark_crust.ensures k)
    (work_zero s.points.now s.cells.now s.work.now f c.mark_crust.new.work c.mark_crust.auto.work k.zero)

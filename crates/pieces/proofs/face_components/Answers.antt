use Rattle.std.proofs.lemmas.Result.{err_from_is_err_and}
use mathlib.Core.Path.{sym}
use lib.Seq.{length-take-le}
use Rattle.pieces.proofs.WaysOut.{work_in, asks, refused, short, done}
use Rattle.pieces.proofs.face_components.Goals as goal

pub returns-in_err-judge : goal.returns-in_err-judge
returns-in_err-judge c =
    let p = err_from_is_err_and c.from_residual.result c.from_residual.ensures.1 in
    rw (p.1, p.2) (refused _ _ _ _ c.in_err-judge.ensures)

pub returns-then-numbers-many : goal.returns-then-numbers-many
returns-then-numbers-many c = short _ _ _ _ (sym c.in_ok-judge.ensures) c.if-numbers-many.true

pub slice_bounds-number_all-end-3 : goal.slice_bounds-number_all-end-3
slice_bounds-number_all-end-3 c = work_in _ _ _ (sym c.in_ok-judge.ensures)

pub slice_bounds-number_all-end-4 : goal.slice_bounds-number_all-end-4
slice_bounds-number_all-end-4 c =
    sym (length-take-le _ _ (work_in _ _ _ (sym c.in_ok-judge.ensures)))

pub number_all-count-requires : goal.number_all-count-requires
number_all-count-requires c = asks _ _ _ (sym c.in_ok-judge.ensures)

pub returns : goal.returns
returns c =
    done _ _ _ _
    (sym c.in_ok-judge.ensures)
    c.if-numbers-many.false c.number_all-count.ensures

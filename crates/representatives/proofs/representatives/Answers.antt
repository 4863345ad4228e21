use mathlib.Core.Path.{sym}
use Rattle.std.proofs.lemmas.Result.{err_from_is_err_and}
use mathlib.Core.List.{[]}
use lib.Seq.{length-take-le}
use Rattle.representatives.proofs.WaysOut.{refused, work_fits, laid, done}
use Rattle.representatives.proofs.representatives.Goals as goal

pub returns-in_err-judge : goal.returns-in_err-judge
returns-in_err-judge c =
    let p = err_from_is_err_and c.from_residual.result c.from_residual.ensures.1 in
    rw (p.1, p.2) (refused _ _ _ _ _ _ c.in_err-judge.ensures)

pub slice_bounds-represent-end : goal.slice_bounds-represent-end
slice_bounds-represent-end c = work_fits _ _ _ _ (sym c.in_ok-judge.ensures)

pub slice_bounds-represent-end-2 : goal.slice_bounds-represent-end-2
slice_bounds-represent-end-2 c = sym (length-take-le _ _ (work_fits _ _ _ _ (sym c.in_ok-judge.ensures)))

pub represent-requires : goal.represent-requires
represent-requires c = laid _ _ _ [] [] _ (sym c.in_ok-judge.ensures)

pub returns : goal.returns
returns c = done _ _ _ _ _ _ (sym c.in_ok-judge.ensures) c.represent.ensures.1 c.represent.ensures.0

use mathlib.Core.Path.{sym}
use Rattle.std.proofs.lemmas.Result.{err_from_is_err_and}
use lib.Seq.{length-take-le}
use Rattle.components.proofs.WaysOut.{asks, numbers_fit, refused, short, done}
use Rattle.mesh.proofs.Unrefused.{mesh_fits, points_work}
use Rattle.components.proofs.components.Goals as goal

pub returns-in_err-judge : goal.returns-in_err-judge
returns-in_err-judge c =
    let p = err_from_is_err_and c.from_residual.result c.from_residual.ensures.1 in
    rw (p.1, p.2) (refused _ _ _ _ c.in_err-judge.ensures)

pub returns-then-numbers-many : goal.returns-then-numbers-many
returns-then-numbers-many c = short _ _ _ _ (sym c.in_ok-judge.ensures) c.if-numbers-many.true

pub slice_bounds-number_all-end-3 : goal.slice_bounds-number_all-end-3
slice_bounds-number_all-end-3 c = points_work _ _ _ _ (mesh_fits _ _ _ _ _ (sym c.in_ok-judge.ensures))

pub slice_bounds-number_all-end-4 : goal.slice_bounds-number_all-end-4
slice_bounds-number_all-end-4 c = sym (length-take-le _ _ (points_work _ _ _ _ (mesh_fits _ _ _ _ _ (sym c.in_ok-judge.ensures))))

pub number_all-count-requires : goal.number_all-count-requires
number_all-count-requires c = (asks _ _ _ (mesh_fits _ _ _ _ _ (sym c.in_ok-judge.ensures)), numbers_fit _ _ c.if-numbers-many.false)

pub returns : goal.returns
returns c = let n = c.number_all-count in done _ _ _ _ (sym c.in_ok-judge.ensures) c.if-numbers-many.false n.ensures.listed n.ensures.zero

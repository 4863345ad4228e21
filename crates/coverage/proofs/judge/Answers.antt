use mathlib.Core.Path.{refl, sym}
use Rattle.std.proofs.lemmas.Result.{err_from_is_err_and}
use Rattle.refusals.proofs.Refusals.{above_none}
use borrow.Author.Tests.{eq-eqb, ne_eqb}
use Rattle.lists.proofs.Tests.{failed, passed}
use Rattle.refusals.specs.Rows.{first}
use Rattle.refusals.specs.Causes.{each_rows}
use Rattle.refusals.proofs.Rows.{stops, goes_on}
use Rattle.mesh.specs.Judged.{size_rows, name_rows}
use Rattle.mesh.proofs.Unrefused.{sizes_proper, sizes_fit}
use Rattle.coverage.specs.Step.{mark_rows, coordinate_rows, table_rows}
use Rattle.coverage.proofs.WaysOut.{names_proper}
use Rattle.coverage.proofs.judge.Goals as goal

pub returns-in_err-judge_sizes : goal.returns-in_err-judge_sizes
unfolding table_rows
returns-in_err-judge_sizes c =
    let p = err_from_is_err_and c.from_residual.result c.from_residual.ensures.1 in
    rw (p.1, p.2) (stops (size_rows _ _ _ _ _) _ c.in_err-judge_sizes.ensures (above_none _))

pub returns-then-marks-cells : goal.returns-then-marks-cells
unfolding table_rows each_rows mark_rows coordinate_rows first
returns-then-marks-cells c = rw (goes_on _ _ (sizes_proper _ _ _ _ _) c.in_ok-judge_sizes.ensures refl, ne_eqb _ _ c.if-marks-cells.true)

pub returns-then-not-all_at_most : goal.returns-then-not-all_at_most
unfolding table_rows each_rows mark_rows coordinate_rows first
returns-then-not-all_at_most c = rw (goes_on _ _ (sizes_proper _ _ _ _ _) c.in_ok-judge_sizes.ensures refl, eq-eqb _ _ c.if-marks-cells.false, failed c.all_at_most.ensures c.if-not-all_at_most.true)

pub judge_names-requires : goal.judge_names-requires
judge_names-requires c = (sizes_fit _ _ _ _ _ (sym c.in_ok-judge_sizes.ensures)).few_points

pub returns-in_err-judge_names : goal.returns-in_err-judge_names
unfolding table_rows each_rows mark_rows coordinate_rows first
returns-in_err-judge_names c =
    let p = err_from_is_err_and c.from_residual-in_err-judge_names.result c.from_residual-in_err-judge_names.ensures.1 in
    rw (p.1, p.2, goes_on _ _ (sizes_proper _ _ _ _ _) c.in_ok-judge_sizes.ensures refl, eq-eqb _ _ c.if-marks-cells.false, passed c.all_at_most.ensures c.if-not-all_at_most.false)
    (stops (name_rows _ _) _ c.in_err-judge_names.ensures (above_none _))

pub returns-then-not-all_below : goal.returns-then-not-all_below
unfolding table_rows each_rows mark_rows coordinate_rows first
returns-then-not-all_below c =
    rw (goes_on _ _ (sizes_proper _ _ _ _ _) c.in_ok-judge_sizes.ensures refl, eq-eqb _ _ c.if-marks-cells.false, passed c.all_at_most.ensures c.if-not-all_at_most.false, goes_on (name_rows _ _) (coordinate_rows _) (names_proper _ _) c.in_ok-judge_names.ensures refl, failed c.all_below.ensures c.if-not-all_below.true)

pub returns : goal.returns
unfolding table_rows each_rows mark_rows coordinate_rows first
returns c =
    rw (goes_on _ _ (sizes_proper _ _ _ _ _) c.in_ok-judge_sizes.ensures refl, eq-eqb _ _ c.if-marks-cells.false, passed c.all_at_most.ensures c.if-not-all_at_most.false, goes_on (name_rows _ _) (coordinate_rows _) (names_proper _ _) c.in_ok-judge_names.ensures refl, passed c.all_below.ensures c.if-not-all_below.false)

use mathlib.Core.Path.{refl, sym}
use Rattle.std.proofs.lemmas.Result.{err_from_is_err_and}
use Rattle.refusals.proofs.Refusals.{above_none}
use borrow.Author.Tests.{eq-eqb, ne_eqb}
use Rattle.lists.proofs.Tests.{failed, passed}
use Rattle.refusals.specs.Rows.{first}
use Rattle.refusals.specs.Causes.{each_rows, answer_rows}
use Rattle.refusals.proofs.Rows.{stops, goes_on}
use Rattle.mesh.specs.Judged.{size_rows}
use Rattle.mesh.proofs.Unrefused.{sizes_proper, sizes_fit}
use Rattle.keep.specs.Step.{cover_rows}
use Rattle.keep.proofs.judge_cover.Goals as goal

pub returns-then-not-is_size : goal.returns-then-not-is_size
unfolding cover_rows first
returns-then-not-is_size c = rw (failed c.is_size.ensures c.if-not-is_size.true)

pub returns-in_err-judge_sizes : goal.returns-in_err-judge_sizes
unfolding cover_rows first
returns-in_err-judge_sizes c =
    let p = err_from_is_err_and c.from_residual.result c.from_residual.ensures.1 in
    rw (p.1, p.2, passed c.is_size.ensures c.if-not-is_size.false) (stops (size_rows _ _ _ _ _) _ c.in_err-judge_sizes.ensures (above_none _))

pub returns-then-crossing-cells : goal.returns-then-crossing-cells
unfolding cover_rows first each_rows
returns-then-crossing-cells c =
    rw (
      passed c.is_size.ensures c.if-not-is_size.false,
      goes_on _ _ (sizes_proper _ _ _ _ _) c.in_ok-judge_sizes.ensures refl,
      ne_eqb _ _ c.if-crossing-cells.true,
    )

pub returns-then-probe-cells : goal.returns-then-probe-cells
unfolding cover_rows first each_rows
returns-then-probe-cells c =
    rw (
      passed c.is_size.ensures c.if-not-is_size.false,
      goes_on _ _ (sizes_proper _ _ _ _ _) c.in_ok-judge_sizes.ensures refl,
      eq-eqb _ _ c.if-crossing-cells.false,
      ne_eqb _ _ c.if-probe-cells.true,
    )

pub returns-then-not-all_at_most : goal.returns-then-not-all_at_most
unfolding cover_rows first each_rows answer_rows
returns-then-not-all_at_most c =
    rw (
      passed c.is_size.ensures c.if-not-is_size.false,
      goes_on _ _ (sizes_proper _ _ _ _ _) c.in_ok-judge_sizes.ensures refl,
      eq-eqb _ _ c.if-crossing-cells.false,
      eq-eqb _ _ c.if-probe-cells.false,
      failed c.all_at_most.ensures c.if-not-all_at_most.true,
    )

pub returns-then-not-all_at_most-2 : goal.returns-then-not-all_at_most-2
unfolding cover_rows first each_rows answer_rows
returns-then-not-all_at_most-2 c =
    rw (
      passed c.is_size.ensures c.if-not-is_size.false,
      goes_on _ _ (sizes_proper _ _ _ _ _) c.in_ok-judge_sizes.ensures refl,
      eq-eqb _ _ c.if-crossing-cells.false,
      eq-eqb _ _ c.if-probe-cells.false,
      passed c.all_at_most.ensures c.if-not-all_at_most.false,
      failed c.all_at_most-2.ensures c.if-not-all_at_most-2.true,
    )

pub judge_names-requires : goal.judge_names-requires
judge_names-requires c = (sizes_fit _ _ _ _ _ (sym c.in_ok-judge_sizes.ensures)).few_points

pub returns : goal.returns
unfolding cover_rows first each_rows answer_rows
returns c =
    rw (
      passed c.is_size.ensures c.if-not-is_size.false,
      goes_on _ _ (sizes_proper _ _ _ _ _) c.in_ok-judge_sizes.ensures refl,
      eq-eqb _ _ c.if-crossing-cells.false,
      eq-eqb _ _ c.if-probe-cells.false,
      passed c.all_at_most.ensures c.if-not-all_at_most.false,
      passed c.all_at_most-2.ensures c.if-not-all_at_most-2.false,
    )
    c.judge_names.ensures

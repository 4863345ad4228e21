use mathlib.Core.Path.{refl, sym}
use Rattle.std.proofs.lemmas.Result.{err_from_is_err_and}
use borrow.Author.Tests.{eq-eqb, ne_eqb}
use Rattle.lists.proofs.Tests.{failed, passed}
use Rattle.refusals.specs.Rows.{first}
use Rattle.refusals.specs.Causes.{each_rows, answer_rows}
use Rattle.refusals.proofs.Rows.{stops, goes_on}
use Rattle.refusals.proofs.Refusals.{above_none}
use Rattle.mesh.proofs.Unrefused.{sizes_proper, sizes_fit}
use Rattle.groups.specs.Judged.{crossed_rows}
use Rattle.groups.proofs.judge.Goals as goal

pub returns-in_err-judge_sizes : goal.returns-in_err-judge_sizes
unfolding crossed_rows
returns-in_err-judge_sizes c =
    let p = err_from_is_err_and c.from_residual.result c.from_residual.ensures.1 in
    rw (p.1, p.2) (stops _ _ c.in_err-judge_sizes.ensures (above_none _))

pub returns-then-crossing-cells : goal.returns-then-crossing-cells
unfolding crossed_rows first each_rows answer_rows
returns-then-crossing-cells c =
    rw (goes_on _ _ (sizes_proper _ _ _ _ _) c.in_ok-judge_sizes.ensures refl, ne_eqb _ _ c.if-crossing-cells.true)

pub returns-then-not-all_at_most : goal.returns-then-not-all_at_most
unfolding crossed_rows first each_rows answer_rows
returns-then-not-all_at_most c =
    rw (
      goes_on _ _ (sizes_proper _ _ _ _ _) c.in_ok-judge_sizes.ensures refl,
      eq-eqb _ _ c.if-crossing-cells.false,
      failed c.all_at_most.ensures c.if-not-all_at_most.true,
    )

pub judge_names-requires : goal.judge_names-requires
judge_names-requires c =
    (sizes_fit _ _ _ _ _ (sym c.in_ok-judge_sizes.ensures)).few_points

pub returns : goal.returns
unfolding crossed_rows first each_rows answer_rows
returns c =
    rw (
      goes_on _ _ (sizes_proper _ _ _ _ _) c.in_ok-judge_sizes.ensures refl,
      eq-eqb _ _ c.if-crossing-cells.false,
      passed c.all_at_most.ensures c.if-not-all_at_most.false,
    )
    c.judge_names.ensures

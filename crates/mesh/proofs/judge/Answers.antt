use mathlib.Core.Path.{refl, sym, ◌∙◌}
use Rattle.std.proofs.lemmas.Result.{err_from_is_err_and}
use Rattle.refusals.proofs.Rows.{stops, goes_on}
use Rattle.refusals.proofs.Refusals.{above_none}
use Rattle.mesh.specs.Judged.{mesh_rows}
use Rattle.mesh.proofs.Unrefused.{sizes_proper, sizes_fit}
use Rattle.mesh.proofs.judge.Goals as goal

pub returns-in_err-judge_sizes : goal.returns-in_err-judge_sizes
unfolding mesh_rows
returns-in_err-judge_sizes c =
    let p = err_from_is_err_and c.from_residual.result c.from_residual.ensures.1 in
    rw (p.1, p.2) (stops _ _ c.in_err-judge_sizes.ensures (above_none _))

pub judge_names-requires : goal.judge_names-requires
judge_names-requires c = (sizes_fit _ _ _ _ _ (sym c.in_ok-judge_sizes.ensures)).few_points

pub returns : goal.returns
unfolding mesh_rows
returns c = c.judge_names.ensures ∙ sym (goes_on _ _ (sizes_proper _ _ _ _ _) c.in_ok-judge_sizes.ensures refl)

use mathlib.Core.Path.{sym}
use Rattle.std.proofs.lemmas.Result.{err_from_is_err_and}
use Rattle.refusals.proofs.Rows.{stops}
use Rattle.refusals.proofs.Refusals.{above_none}
use Rattle.mesh_reader.specs.Step.{file_rows}
use Rattle.mesh_reader.proofs.Sections.{laid, cells_stand, content_judged}
use Rattle.mesh_reader.proofs.judge.Goals as goal

pub returns-in_err-judge_sections : goal.returns-in_err-judge_sections
unfolding file_rows
returns-in_err-judge_sections c =
    let p = err_from_is_err_and c.from_residual.result c.from_residual.ensures.1 in
    rw (p.1, p.2) (stops _ _ c.in_err-judge_sections.ensures (above_none _))

pub blocks-s-requires : goal.blocks-s-requires
blocks-s-requires c = laid _ (sym c.in_ok-judge_sections.ensures)

pub judge_content-requires : goal.judge_content-requires
judge_content-requires c = cells_stand _ c.blocks-s.ensures (sym c.in_ok-judge_sections.ensures)

pub returns : goal.returns
returns c = content_judged _ c.blocks-s.ensures (sym c.in_ok-judge_sections.ensures) c.judge_content.ensures

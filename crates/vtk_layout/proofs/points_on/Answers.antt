use mathlib.Core.Path.{sym, ◌∙◌}
use native.Mathlib.Omega.{arith}
use Rattle.decimal.proofs.Texts.{exits, halted, onwards}
use Rattle.decimal.proofs.Counts.{count_halted, count_onwards}
use Rattle.vtk_layout.proofs.Parts.{line_in, counted_small}
use Rattle.decimal.specs.Text.{text_of}
use Rattle.vtk_layout.specs.Texts.{float_line, cells_word}
use Rattle.vtk_layout.specs.Layout.{points_on}
use Rattle.vtk_layout.proofs.points_on.Goals as goal

pub returns-in_err-points : goal.returns-in_err-points
unfolding points_on float_line text_of
returns-in_err-points c = exits c.from_residual.ensures.1 ∙ halted _ _ _ _ c.in_err-points.ensures

pub overflow_add-points : goal.overflow_add-points
overflow_add-points c = omega (arith, line_in _ _ _ _ _ (sym c.in_ok-points.ensures))

pub returns-in_err-n : goal.returns-in_err-n
unfolding points_on float_line cells_word text_of
returns-in_err-n c = onwards _ _ _ _ c.in_ok-points.ensures (exits c.from_residual-in_err-n.ensures.1 ∙ count_halted _ _ _ _ c.in_err-n.ensures)

pub cells_on-requires : goal.cells_on-requires
cells_on-requires c = counted_small _ _ _ _ _ (sym c.in_ok-n.ensures)

pub returns : goal.returns
unfolding points_on float_line cells_word text_of
returns c = onwards _ _ _ _ c.in_ok-points.ensures (count_onwards _ _ _ _ _ c.in_ok-n.ensures c.cells_on.ensures)

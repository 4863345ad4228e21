use mathlib.Core.Path.{◌∙◌}
use Rattle.decimal.proofs.Texts.{exits, halted, onwards}
use Rattle.decimal.specs.Text.{text_of}
use Rattle.vtk_layout.specs.Texts.{version_line, dataset_lines}
use Rattle.vtk_layout.specs.Layout.{head_of}
use Rattle.vtk_layout.proofs.head.Goals as goal

pub returns-in_err-first : goal.returns-in_err-first
unfolding head_of version_line text_of
returns-in_err-first c = exits c.from_residual.ensures.1 ∙ halted _ _ _ _ c.in_err-first.ensures

pub returns-in_err-second : goal.returns-in_err-second
unfolding head_of version_line text_of
returns-in_err-second c = onwards _ _ _ _ c.in_ok-first.ensures (exits c.from_residual-in_err-second.ensures.1 ∙ halted _ _ _ _ c.in_err-second.ensures)

pub returns : goal.returns
unfolding head_of version_line dataset_lines text_of
returns c = onwards _ _ _ _ c.in_ok-first.ensures (onwards _ _ _ _ c.in_ok-second.ensures c.counted.ensures)

use mathlib.Core.Path.{◌∙◌}
use Rattle.decimal.proofs.Texts.{exits, halted, onwards}
use Rattle.vtk_layout.specs.Layout.{section_at}
use Rattle.vtk_layout.proofs.section.Goals as goal

pub returns-in_err-first : goal.returns-in_err-first
unfolding section_at
returns-in_err-first c = exits c.from_residual.ensures.1 ∙ halted _ _ _ _ c.in_err-first.ensures

pub returns-in_err-second : goal.returns-in_err-second
unfolding section_at
returns-in_err-second c = onwards _ _ _ _ c.in_ok-first.ensures (exits c.from_residual-in_err-second.ensures.1 ∙ halted _ _ _ _ c.in_err-second.ensures)

pub returns : goal.returns
unfolding section_at
returns c = onwards _ _ _ _ c.in_ok-first.ensures (onwards _ _ _ _ c.in_ok-second.ensures c.line.ensures)

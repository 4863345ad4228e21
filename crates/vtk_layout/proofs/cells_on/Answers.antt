use mathlib.Core.Path.{sym, ◌∙◌}
use Rattle.decimal.proofs.Texts.{exits, halted, onwards}
use Rattle.vtk_layout.proofs.Parts.{section_in}
use Rattle.decimal.specs.Text.{text_of}
use Rattle.vtk_layout.specs.Texts.{space, feed}
use Rattle.vtk_layout.specs.Layout.{cells_on}
use Rattle.vtk_layout.proofs.cells_on.Goals as goal

pub returns-in_err-cells : goal.returns-in_err-cells
unfolding cells_on space feed text_of
returns-in_err-cells c = exits c.from_residual.ensures.1 ∙ halted _ _ _ _ c.in_err-cells.ensures

pub types_on-requires : goal.types_on-requires
types_on-requires c = (c.requires, section_in _ _ _ _ _ _ _ (sym c.in_ok-cells.ensures))

pub returns : goal.returns
unfolding cells_on space feed text_of
returns c = onwards _ _ _ _ c.in_ok-cells.ensures c.types_on.ensures

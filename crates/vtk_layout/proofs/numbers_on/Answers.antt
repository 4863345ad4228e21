use mathlib.Core.Path.{refl, sym, ◌∙◌}
use native.Mathlib.Omega.{arith}
use Rattle.decimal.proofs.Texts.{exits, halted, onwards}
use Rattle.vtk_layout.proofs.Parts.{section_in}
use Rattle.decimal.specs.Text.{text_of}
use Rattle.vtk_layout.specs.Texts.{data_word, scalar_lines}
use Rattle.vtk_layout.specs.Layout.{numbers_on}
use Rattle.vtk_layout.proofs.numbers_on.Goals as goal

pub returns-in_err-numbers : goal.returns-in_err-numbers
unfolding numbers_on data_word scalar_lines text_of
returns-in_err-numbers c = exits c.from_residual.ensures.1 ∙ halted _ _ _ _ c.in_err-numbers.ensures

pub overflow_add-numbers : goal.overflow_add-numbers
unfolding data_word scalar_lines text_of
overflow_add-numbers c = omega (arith, section_in _ _ _ _ _ _ _ (sym c.in_ok-numbers.ensures))

pub returns-in_err-end : goal.returns-in_err-end
unfolding numbers_on data_word scalar_lines text_of
returns-in_err-end c = onwards _ _ _ _ c.in_ok-numbers.ensures (exits c.from_residual-in_err-end.ensures.1 ∙ halted _ _ _ _ c.in_err-end.ensures)

pub returns : goal.returns
unfolding numbers_on data_word scalar_lines text_of
returns c = onwards _ _ _ _ c.in_ok-numbers.ensures (onwards _ _ _ _ c.in_ok-end.ensures refl)

use mathlib.Core.Path.{sym, ◌∙◌}
use Rattle.decimal.proofs.Texts.{exits, halted, onwards}
use Rattle.vtk_layout.proofs.Parts.{section_in}
use Rattle.decimal.specs.Text.{text_of}
use Rattle.vtk_layout.specs.Texts.{types_word, feed}
use Rattle.vtk_layout.specs.Layout.{types_on}
use Rattle.vtk_layout.proofs.types_on.Goals as goal

pub returns-in_err-types : goal.returns-in_err-types
unfolding types_on types_word feed text_of
returns-in_err-types c = exits c.from_residual.ensures.1 ∙ halted _ _ _ _ c.in_err-types.ensures

pub numbers_on-requires : goal.numbers_on-requires
numbers_on-requires c = (c.requires.0, section_in _ _ _ _ _ _ _ (sym c.in_ok-types.ensures))

pub returns : goal.returns
unfolding types_on types_word feed text_of
returns c = onwards _ _ _ _ c.in_ok-types.ensures c.numbers_on.ensures

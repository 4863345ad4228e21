use mathlib.Core.Path.{◌∙◌}
use Rattle.decimal.proofs.Texts.{exits, halted, onwards}
use Rattle.vtk_layout.proofs.Parts.{past, not_past}
use Rattle.decimal.specs.Text.{text_of}
use Rattle.vtk_layout.specs.Texts.{feed}
use Rattle.vtk_layout.specs.Layout.{end_at}
use Rattle.vtk_layout.proofs.end.Goals as goal

pub returns-in_err-next : goal.returns-in_err-next
unfolding end_at feed text_of
returns-in_err-next c = exits c.from_residual.ensures.1 ∙ halted _ _ _ _ c.in_err-next.ensures

pub returns-then-next-file : goal.returns-then-next-file
unfolding end_at feed text_of
returns-then-next-file c = onwards _ _ _ _ c.in_ok-next.ensures (past c.args.file.now _ c.if-next-file.true)

pub returns : goal.returns
unfolding end_at feed text_of
returns c = onwards _ _ _ _ c.in_ok-next.ensures (not_past c.args.file.now _ c.if-next-file.false)

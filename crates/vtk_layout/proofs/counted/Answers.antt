use mathlib.Core.Path.{◌∙◌}
use Rattle.decimal.proofs.Texts.{exits, halted, onwards}
use Rattle.vtk_layout.specs.Layout.{counted_at}
use Rattle.vtk_layout.proofs.counted.Goals as goal

pub returns-in_err-next : goal.returns-in_err-next
unfolding counted_at
returns-in_err-next c = exits c.from_residual.ensures.1 ∙ halted _ _ _ _ c.in_err-next.ensures

pub returns : goal.returns
unfolding counted_at
returns c = onwards _ _ _ _ c.in_ok-next.ensures c.count.ensures

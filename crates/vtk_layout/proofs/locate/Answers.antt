use mathlib.Core.Path.{sym, ◌∙◌}
use Rattle.decimal.proofs.Texts.{exits}
use Rattle.decimal.proofs.Counts.{count_halted, count_onwards}
use Rattle.vtk_layout.proofs.Parts.{head_small}
use Rattle.vtk_layout.specs.Layout.{located_of}
use Rattle.vtk_layout.proofs.locate.Goals as goal

pub returns-in_err-p : goal.returns-in_err-p
unfolding located_of
returns-in_err-p c = exits c.from_residual.ensures.1 ∙ count_halted _ _ _ _ c.in_err-p.ensures

pub points_on-requires : goal.points_on-requires
points_on-requires c = head_small _ _ _ (sym c.in_ok-p.ensures)

pub returns : goal.returns
unfolding located_of
returns c = count_onwards _ _ _ _ _ c.in_ok-p.ensures c.points_on.ensures

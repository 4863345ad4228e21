use mathlib.Core.Path.{◌∙◌}
use Rattle.sides.proofs.Laws.{in_x, in_y, in_z}
use Rattle.sides.proofs.split_in.Goals as goal

pub returns-in-X : goal.returns-in-X
returns-in-X c = c.hits.ensures ∙ in_x _ _ _ _ _ c.in-X.is

pub returns-in-Y : goal.returns-in-Y
returns-in-Y c = c.hits-in-Y.ensures ∙ in_y _ _ _ _ _ c.in-Y.is

pub returns-in-Z : goal.returns-in-Z
returns-in-Z c = c.hits-in-Z.ensures ∙ in_z _ _ _ _ _ c.in-Z.is

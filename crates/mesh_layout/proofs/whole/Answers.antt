use mathlib.Core.Path.{◌∙◌}
use Rattle.mesh_layout.specs.Layout.{whole_at}
use Rattle.mesh_layout.proofs.whole.Goals as goal

pub returns : goal.returns
unfolding whole_at
returns c = c.min.ensures ∙ rw c.count-announced.ensures.0

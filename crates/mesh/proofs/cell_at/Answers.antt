use mathlib.Core.Path.{refl}
use Rattle.mesh.specs.Mesh.{cell_of}
use Rattle.mesh.proofs.cell_at.Goals as goal

pub returns : goal.returns
unfolding cell_of
returns c = refl

use native.Mathlib.Omega.{arith}
use Rattle.leaf_cells.proofs.Keys.{half_few}
use Rattle.leaf_cells.proofs.half_of.Goals as goal

pub returns : goal.returns
returns c = (omega (arith, c.along.ensures), omega (arith, c.along.ensures, half_few _ c.requires))

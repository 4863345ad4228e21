use native.Mathlib.Omega.{arith}
use Rattle.leaf_cells.proofs.Keys.{keying_on, keying_done}
use Rattle.leaf_cells.proofs.leaf_keys.Goals as goal

pub loop-n-preserved : goal.loop-n-preserved
loop-n-preserved c = keying_on _ _ _ _ _ c.loop-n.invariant _ (omega arith) c.requires.leaves_in_bounds.1 c.store_keys.ensures

pub returns : goal.returns
returns c = keying_done _ _ _ _ _ c.loop-n.invariant (omega arith)

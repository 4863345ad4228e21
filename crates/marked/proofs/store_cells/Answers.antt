use native.Mathlib.Omega.{arith}
use Rattle.marked.proofs.Placing.{placing_start, placing_step, cell_asked, placing_done}
use Rattle.marked.proofs.store_cells.Goals as goal

pub loop-i-init : goal.loop-i-init
loop-i-init c = placing_start _ _ _ _

pub store_cell-k-requires : goal.store_cell-k-requires
store_cell-k-requires c = cell_asked _ _ _ _ _ _ _ c.loop-i.invariant c.requires c.loop-i-test.true

pub loop-i-preserved : goal.loop-i-preserved
loop-i-preserved c = placing_step _ _ _ _ _ _ _ c.loop-i.invariant c.store_cell-k.ensures

pub returns : goal.returns
returns c = placing_done _ _ _ _ _ _ _ c.loop-i.invariant c.requires (omega arith)

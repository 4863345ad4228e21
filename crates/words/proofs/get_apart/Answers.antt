use Rattle.words.proofs.Turns.{cell_read, cells_read}
use Rattle.words.proofs.get_apart.Goals as goal

pub loop-i-preserved : goal.loop-i-preserved
loop-i-preserved c = cell_read _ _ _ _ _ c.loop-i.invariant c.requires.1 c.loop-i-test.true c.quad_at.ensures c.store_all.ensures

pub returns : goal.returns
returns c = cells_read _ _ _ _ _ c.loop-i.invariant c.requires.1 c.loop-i-test.false

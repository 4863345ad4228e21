use Rattle.coverage.proofs.Volumes.{to_b, to_c, to_d, six_is}
use Rattle.coverage.proofs.sixfold.Goals as goal

pub edge-u-requires : goal.edge-u-requires
edge-u-requires c = to_b c.requires c.cell_at-cell.ensures

pub edge-v-requires : goal.edge-v-requires
edge-v-requires c = to_c c.requires c.cell_at-cell.ensures

pub edge-w-requires : goal.edge-w-requires
edge-w-requires c = to_d c.requires c.cell_at-cell.ensures

pub returns : goal.returns
returns c = six_is c.requires c.cell_at-cell.ensures c.edge-u.ensures c.edge-v.ensures c.edge-w.ensures c.cross.ensures c.dot.ensures c.unsigned_abs.ensures.value

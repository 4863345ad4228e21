use native.Mathlib.Omega.{arith}
use Rattle.leaf_cells.proofs.Keys.{all_placed}
use Rattle.grid.proofs.Octrees.{standing, index_asks, ready}
use Rattle.grid.proofs.number_vertices.Goals as goal

pub leaf_keys-requires : goal.leaf_keys-requires
leaf_keys-requires c =
    let a = c.args in
    let h = c.requires in
    let k = standing a.split.now a.d a.many a.work.now h _ c.list_leaves.ensures in
    record { leaves_in_bounds = (k.fits, omega arith); all_placed = all_placed _ _ h.taken _ _ _ k }

pub index-requires : goal.index-requires
index-requires c =
    let a = c.args in
    index_asks a.split.now a.d a.many a.work.now c.requires _ c.list_leaves.ensures _ _ _ c.leaf_keys.ensures
    c.number-v.auto.keys c.number-v.ensures.1 c.number-v.ensures.0

pub returns : goal.returns
returns c =
    let a = c.args in
    ready a.split.now a.d a.many a.work.now c.requires _ c.list_leaves.ensures _ _ _ c.leaf_keys.ensures
    c.number-v.auto.keys c.number-v.ensures.1 c.number-v.ensures.0 _ c.index.auto.keys c.index.ensures

use native.Mathlib.Omega.{arith}
use Rattle.leaf_cells.proofs.Leafwise.{listed}
use Rattle.leaf_cells.proofs.Storing.{entry_at, emitting_on, emitting_room, emitting_done}
use Rattle.leaf_cells.proofs.store_cells.Goals as goal

pub leaf_cells-at-requires : goal.leaf_cells-at-requires
leaf_cells-at-requires c =
    let s = c.requires.taken in
    let e = entry_at c.args.keys.entries.now c.args.list c.args.leaves c.loop-leaf.leaf-index (omega arith) in
    rw e
    record {
      taken = (s.0, listed _ _ s.0 _ _ _ s.1 _ (omega arith));
      room = emitting_room _ _ _ _ _ _ _ _ _ _ c.loop-leaf.invariant s.0 s.1 c.requires.out_len (omega arith);
    }

pub loop-leaf-preserved : goal.loop-leaf-preserved
loop-leaf-preserved c =
    let e = entry_at c.args.keys.entries.now c.args.list c.args.leaves c.loop-leaf.leaf-index (omega arith) in
    emitting_on _ _ _ _ _ _ _ _ _ _ c.loop-leaf.invariant _ _ (omega arith) (rw e at c.leaf_cells-at.ensures)

pub returns : goal.returns
returns c = emitting_done _ _ _ _ _ _ _ _ _ _ c.loop-leaf.invariant c.requires.taken.0 c.requires.taken.1 c.requires.out_len (omega arith)

use mathlib.Core.Path.{refl}
use Rattle.lists.proofs.Running.{stored_both}
use Rattle.face_cells.proofs.Laws.{room_to, room_front, room_rest, all_small, leaf_axes}
use Rattle.face_cells.proofs.six_faces.Goals as goal

pub axis_cells-n-requires : goal.axis_cells-n-requires
axis_cells-n-requires c =
    let s = c.requires in
    let e = leaf_axes _ _ _ c.corners_at-x.ensures c.from_next-y.ensures c.from_next-z.ensures c.args.f in
    let b = all_small _ _ _ c.corners_at-x.ensures c.from_next-y.ensures c.from_next-z.ensures s.leaf_small.0 s.leaf_small.1 in
    record { keys_fit = b.0; turns = s.all_turn.x; room = room_front _ _ (room_to e s.room) }

pub axis_cells-m-requires : goal.axis_cells-m-requires
axis_cells-m-requires c =
    let s = c.requires in
    let e = leaf_axes _ _ _ c.corners_at-x.ensures c.from_next-y.ensures c.from_next-z.ensures c.args.f in
    let b = all_small _ _ _ c.corners_at-x.ensures c.from_next-y.ensures c.from_next-z.ensures s.leaf_small.0 s.leaf_small.1 in
    record { keys_fit = b.1; turns = s.all_turn.y; room = room_front _ _ (room_rest _ _ (room_to e s.room) c.axis_cells-n.ensures) }

pub axis_cells-requires : goal.axis_cells-requires
axis_cells-requires c =
    let s = c.requires in
    let e = leaf_axes _ _ _ c.corners_at-x.ensures c.from_next-y.ensures c.from_next-z.ensures c.args.f in
    let b = all_small _ _ _ c.corners_at-x.ensures c.from_next-y.ensures c.from_next-z.ensures s.leaf_small.0 s.leaf_small.1 in
    record { keys_fit = b.2; turns = s.all_turn.z; room = room_rest _ _ (room_rest _ _ (room_to e s.room) c.axis_cells-n.ensures) c.axis_cells-m.ensures }

pub returns : goal.returns
returns c =
    let e = leaf_axes _ _ _ c.corners_at-x.ensures c.from_next-y.ensures c.from_next-z.ensures c.args.f in
    stored_both e c.axis_cells-n.ensures (stored_both refl c.axis_cells-m.ensures c.axis_cells.ensures)

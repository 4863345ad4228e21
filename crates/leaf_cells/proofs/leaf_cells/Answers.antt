use Rattle.lists.proofs.Running.{stored_as}
use Rattle.face_cells.proofs.Laws.{room_to}
use Rattle.leaf_cells.proofs.Keys.{placed}
use Rattle.leaf_cells.proofs.Storing.{listed_leaf, sides_turn, leaf_numbers_lem}
use Rattle.leaf_cells.proofs.leaf_cells.Goals as goal

pub sides_at-f-requires : goal.sides_at-f-requires
sides_at-f-requires c = let s = c.requires.taken in (s.0, listed_leaf _ _ s.0 _ s.1 c.unpack.ensures.0 c.unpack.ensures.1)

pub half_of-h-requires : goal.half_of-h-requires
half_of-h-requires c = let s = c.requires.taken in placed _ _ s.0 _ s.1

pub low_of-requires : goal.low_of-requires
low_of-requires c = let s = c.requires.taken in (placed _ _ s.0 _ s.1, c.half_of-h.ensures.0)

pub six_faces-requires : goal.six_faces-requires
six_faces-requires c =
    let s = c.requires.taken in
    let u = c.unpack.ensures in
    let e = leaf_numbers_lem _ _ s.0 _ s.1 u.0 u.1 c.sides_at-f.ensures c.args.keys.entries.now c.args.keys.count c.low_of.ensures.0 c.half_of-h.ensures.0 in
    record {
      leaf_small = (c.low_of.ensures.1, c.half_of-h.ensures.1);
      all_turn = sides_turn _ _ s.0 _ s.1 u.0 u.1 c.sides_at-f.ensures;
      room = room_to e c.requires.room;
    }

pub returns : goal.returns
returns c =
    let s = c.requires.taken in
    let u = c.unpack.ensures in
    let e = leaf_numbers_lem _ _ s.0 _ s.1 u.0 u.1 c.sides_at-f.ensures c.args.keys.entries.now c.args.keys.count c.low_of.ensures.0 c.half_of-h.ensures.0 in
    stored_as e c.six_faces.ensures

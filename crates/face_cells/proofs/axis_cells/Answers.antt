use mathlib.Core.Path.{refl}
use Rattle.lists.proofs.Running.{stored_both}
use Rattle.face_cells.proofs.Laws.{room_to, room_front, room_rest, low_small, high_small, axis_faces}
use Rattle.face_cells.proofs.axis_cells.Goals as goal

pub face_cells-n-requires : goal.face_cells-n-requires
face_cells-n-requires c = record { keys_fit = low_small c.args.o c.low_face.ensures c.requires.keys_fit; turns = c.requires.turns.0; room = room_front _ _ (room_to (axis_faces _ _ _ _ c.low_face.ensures refl) c.requires.room) }

pub face_cells-requires : goal.face_cells-requires
face_cells-requires c = record { keys_fit = high_small c.args.o c.high_face.ensures c.requires.keys_fit; turns = c.requires.turns.1; room = room_rest _ _ (room_to (axis_faces _ _ _ _ c.low_face.ensures c.high_face.ensures) c.requires.room) c.face_cells-n.ensures }

pub returns : goal.returns
returns c = stored_both (axis_faces _ _ _ _ c.low_face.ensures c.high_face.ensures) c.face_cells-n.ensures c.face_cells.ensures

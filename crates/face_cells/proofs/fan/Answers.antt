use mathlib.Core.Path.{refl}
use Rattle.lists.proofs.Running.{stored_both}
use Rattle.face_cells.specs.Parts.{fan_numbers}
use Rattle.face_cells.proofs.Laws.{room_front, room_rest, room_over}
use Rattle.face_cells.proofs.fan.Goals as goal

pub over-n-requires : goal.over-n-requires
unfolding fan_numbers
over-n-requires c = record { room = room_front _ _ c.requires.room }

pub over-m-requires : goal.over-m-requires
unfolding fan_numbers
over-m-requires c = record { room = room_front _ _ (room_rest _ _ c.requires.room c.over-n.ensures) }

pub over-l-requires : goal.over-l-requires
unfolding fan_numbers
over-l-requires c = record { room = room_front _ _ (room_rest _ _ (room_rest _ _ c.requires.room c.over-n.ensures) c.over-m.ensures) }

pub over-requires : goal.over-requires
unfolding fan_numbers
over-requires c = record { room = room_over _ _ _ _ (room_rest _ _ (room_rest _ _ (room_rest _ _ c.requires.room c.over-n.ensures) c.over-m.ensures) c.over-l.ensures) }

pub returns : goal.returns
unfolding fan_numbers
returns c = stored_both refl c.over-n.ensures (stored_both refl c.over-m.ensures (stored_both refl c.over-l.ensures c.over.ensures))

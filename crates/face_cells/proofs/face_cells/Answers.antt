use native.Mathlib.Omega.{arith}
use Rattle.lists.proofs.Running.{stored_as, stored_none}
use Rattle.face_cells.proofs.Laws.{room_to, room_halves, halves_room, room_fan, face_split, face_equal, face_given, face_coarser, face_border, turned_room, turns_few}
use Rattle.face_cells.proofs.face_cells.Goals as goal

pub fan-requires : goal.fan-requires
fan-requires c = record { keys_fit = omega (arith, c.requires.keys_fit); room = room_fan _ _ _ _ _ _ _ (room_to (face_split _ _ _ _ _ c.in-Split.is c.find-m.ensures) c.requires.room) }

pub fan-requires-in-Equal : goal.fan-requires-in-Equal
fan-requires-in-Equal c = record { keys_fit = omega (arith, c.requires.keys_fit); room = room_fan _ _ _ _ _ _ _ (room_to (face_equal _ _ _ _ _ c.in-Equal.is c.near-o.ensures) c.requires.room) }

pub turned-requires : goal.turned-requires
turned-requires c = record { n_bound = turns_few _ c.in-Coarser.is c.requires.turns; at_in_bounds = turned_room _ _ _ _ _ _ (room_to (face_coarser _ _ _ _ c.in-Coarser.is) c.requires.room) }

pub halves-requires : goal.halves-requires
halves-requires c = room_halves _ _ _ _ _ (halves_room _ _ _ _ _ (room_to (face_border _ _ _ _ c.in-Border.is) c.requires.room))

pub returns-in-Split : goal.returns-in-Split
returns-in-Split c = stored_as (face_split _ _ _ _ _ c.in-Split.is c.find-m.ensures) c.fan.ensures

pub returns-in-Equal : goal.returns-in-Equal
returns-in-Equal c = stored_as (face_equal _ _ _ _ _ c.in-Equal.is c.near-o.ensures) c.fan-in-Equal.ensures

pub returns-in-Given : goal.returns-in-Given
returns-in-Given c = stored_none _ _ _ (face_given _ _ _ _ c.in-Given.is)

pub returns-in-Coarser : goal.returns-in-Coarser
returns-in-Coarser c = stored_as (face_coarser _ _ _ _ c.in-Coarser.is) c.turned.ensures

pub returns-in-Border : goal.returns-in-Border
returns-in-Border c = stored_as (face_border _ _ _ _ c.in-Border.is) c.halves.ensures

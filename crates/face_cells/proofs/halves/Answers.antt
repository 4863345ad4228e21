use native.Mathlib.Omega.{arith}
use Rattle.face_cells.proofs.Laws.{stored_two, halves_are, halves_room}
use Rattle.face_cells.proofs.halves.Goals as goal

pub store_all-requires : goal.store_all-requires
store_all-requires c = omega (arith, halves_room _ _ _ _ _ c.requires)

pub store_all-requires-2 : goal.store_all-requires-2
store_all-requires-2 c = omega (arith, halves_room _ _ _ _ _ c.requires, c.store_all.auto.table)

pub returns : goal.returns
returns c = stored_two (halves_are _ _ _ _ _) c.store_all.ensures c.store_all-2.ensures

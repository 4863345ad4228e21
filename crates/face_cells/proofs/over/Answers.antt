use native.Mathlib.Omega.{arith}
use Rattle.face_cells.proofs.Laws.{stored_one, stored_two, over_fine, over_plain, room_fine, room_plain}
use Rattle.face_cells.proofs.over.Goals as goal

pub store_all-requires : goal.store_all-requires
store_all-requires c = omega (arith, room_fine _ _ _ c.if-fine.true c.requires.room)

pub store_all-requires-then-fine : goal.store_all-requires-then-fine
store_all-requires-then-fine c = omega (arith, room_fine _ _ _ c.if-fine.true c.requires.room, c.store_all.auto.table)

pub store_all-requires-else-fine : goal.store_all-requires-else-fine
store_all-requires-else-fine c = omega (arith, room_plain _ _ _ c.if-fine.false c.requires.room)

pub returns-then-fine : goal.returns-then-fine
returns-then-fine c = stored_two (over_fine _ _ _ _ c.if-fine.true c.find-n.ensures) c.store_all.ensures c.store_all-then-fine.ensures

pub returns-else-fine : goal.returns-else-fine
returns-else-fine c = stored_one (over_plain _ _ _ c.if-fine.false) c.store_all-else-fine.ensures

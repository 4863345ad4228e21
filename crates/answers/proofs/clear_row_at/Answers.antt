use native.Mathlib.Omega.{arith}
use Rattle.answers.proofs.Clearing.{row_in, row_cleared}
use Rattle.answers.proofs.clear_row_at.Goals as goal

pub slot_of-requires : goal.slot_of-requires
slot_of-requires c = let h = row_in c.args.v c.args.r c.below-p.ensures c.requires in (omega (arith, h.layer, h.room), omega (arith, h.over, h.room))

pub overflow_add-over : goal.overflow_add-over
overflow_add-over c = omega (arith, row_in c.args.v c.args.r c.below-p.ensures c.requires, c.slot_of.ensures)

pub overflow_mul-r : goal.overflow_mul-r
overflow_mul-r c = omega (arith, (row_in c.args.v c.args.r c.below-p.ensures c.requires).room)

pub overflow_add-p : goal.overflow_add-p
overflow_add-p c = omega (arith, (row_in c.args.v c.args.r c.below-p.ensures c.requires).room)

pub clear_row-requires : goal.clear_row-requires
clear_row-requires c = let h = row_in c.args.v c.args.r c.below-p.ensures c.requires in (h.room, omega (arith, h.over, c.slot_of.ensures))

pub returns : goal.returns
returns c = row_cleared c.args.v c.args.r c.below-p.ensures c.slot_of.ensures c.clear_row.ensures

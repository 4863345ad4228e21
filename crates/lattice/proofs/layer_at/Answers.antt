use mathlib.Core.Path.{sym}
use Rattle.lists.proofs.Running.{loop_next, loop_room, loop_done, stored_as, room_as}
use Rattle.lattice.proofs.Tables.{row_is}
use Rattle.lattice.proofs.layer_at.Goals as goal

pub store_row-here-requires : goal.store_row-here-requires
store_row-here-requires c =
    let e = row_is _ _ _ _ _ (record { layer = c.requires.0; j_in = c.loop-j-test.true }) _ c.row_of.ensures in
    record {
      room = room_as (sym e) (loop_room _ _ _ _ c.loop-j.invariant c.loop-j-test.true c.requires.1);
      corners = c.row_of.ensures.corners;
      centres = c.row_of.ensures.centres;
    }

pub loop-j-preserved : goal.loop-j-preserved
loop-j-preserved c =
    let e = row_is _ _ _ _ _ (record { layer = c.requires.0; j_in = c.loop-j-test.true }) _ c.row_of.ensures in
    loop_next _ _ _ _ c.loop-j.invariant c.loop-j-test.true (stored_as e c.store_row-here.ensures)

pub returns : goal.returns
returns c = loop_done _ _ _ _ c.loop-j.invariant c.loop-j-test.false

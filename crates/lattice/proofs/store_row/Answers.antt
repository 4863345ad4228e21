use native.Mathlib.Omega.{arith}
use Rattle.lists.proofs.Running.{loop_done, storing_on, storing_room, room_first}
use Rattle.lattice.proofs.Stores.{row_x, row_y, row_z}
use Rattle.lattice.proofs.store_row.Goals as goal

pub octahedron-here-requires : goal.octahedron-here-requires
octahedron-here-requires c =
    let x = row_x c.args.r c.loop-i.i c.loop-i-test.true in
    record { room = room_first x (storing_room c.loop-i.invariant c.requires.room); names = omega (arith, c.requires.corners) }

pub octahedron-here-requires-in-loop-i : goal.octahedron-here-requires-in-loop-i
octahedron-here-requires-in-loop-i c =
    let r = c.args.r in
    let s = storing_on c.loop-i.invariant (row_x r c.loop-i.i c.loop-i-test.true) c.octahedron-here.ensures in
    record { room = room_first (row_y r c.loop-i.i c.loop-i-test.true) (storing_room s c.requires.room); names = omega (arith, c.requires.corners) }

pub octahedron-here-requires-in-loop-i-2 : goal.octahedron-here-requires-in-loop-i-2
octahedron-here-requires-in-loop-i-2 c =
    let r = c.args.r in
    let s = storing_on c.loop-i.invariant (row_x r c.loop-i.i c.loop-i-test.true) c.octahedron-here.ensures in
    let q = storing_on s (row_y r c.loop-i.i c.loop-i-test.true) c.octahedron-here-in-loop-i.ensures in
    record { room = room_first (row_z r c.loop-i.i c.loop-i-test.true) (storing_room q c.requires.room); names = omega (arith, c.requires.corners) }

pub loop-i-preserved : goal.loop-i-preserved
loop-i-preserved c =
    let r = c.args.r in
    let s = storing_on c.loop-i.invariant (row_x r c.loop-i.i c.loop-i-test.true) c.octahedron-here.ensures in
    let q = storing_on s (row_y r c.loop-i.i c.loop-i-test.true) c.octahedron-here-in-loop-i.ensures in
    storing_on q (row_z r c.loop-i.i c.loop-i-test.true) c.octahedron-here-in-loop-i-2.ensures

pub returns : goal.returns
returns c = loop_done _ _ _ _ c.loop-i.invariant c.loop-i-test.false

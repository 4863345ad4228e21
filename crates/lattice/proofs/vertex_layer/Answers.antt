use native.Mathlib.Omega.{arith}
use Rattle.lists.proofs.Running.{loop_next, loop_room, loop_done}
use Rattle.lattice.proofs.vertex_layer.Goals as goal

pub vertex_row-here-requires : goal.vertex_row-here-requires
vertex_row-here-requires c =
    let l = c.loop-j in
    let h = c.loop-j-test.true in
    (c.requires.0, c.requires.2, omega (arith, c.requires.1), c.requires.3, record { triples = loop_room _ _ _ _ l.invariant.0 h c.requires.4.triples; points = loop_room _ _ _ _ l.invariant.1 h c.requires.4.points })

pub loop-j-preserved : goal.loop-j-preserved
loop-j-preserved c =
    let l = c.loop-j in
    let h = c.loop-j-test.true in
    (loop_next _ _ _ _ l.invariant.0 h c.vertex_row-here.ensures.triples, loop_next _ _ _ _ l.invariant.1 h c.vertex_row-here.ensures.points)

pub returns : goal.returns
returns c = record { triples = loop_done _ _ _ _ c.loop-j.invariant.0 c.loop-j-test.false; points = loop_done _ _ _ _ c.loop-j.invariant.1 c.loop-j-test.false }

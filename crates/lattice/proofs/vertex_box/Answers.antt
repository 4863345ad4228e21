use native.Mathlib.Omega.{arith}
use Rattle.lists.proofs.Running.{loop_next, loop_room, loop_done}
use Rattle.lattice.proofs.vertex_box.Goals as goal

pub vertex_layer-here-requires : goal.vertex_layer-here-requires
vertex_layer-here-requires c =
    let l = c.loop-k in
    let h = c.loop-k-test.true in
    (c.requires.0, c.requires.1, c.requires.3, omega (arith, c.requires.2), record { triples = loop_room _ _ _ _ l.invariant.0 h c.requires.4.triples; points = loop_room _ _ _ _ l.invariant.1 h c.requires.4.points })

pub loop-k-preserved : goal.loop-k-preserved
loop-k-preserved c =
    let l = c.loop-k in
    let h = c.loop-k-test.true in
    (loop_next _ _ _ _ l.invariant.0 h c.vertex_layer-here.ensures.triples, loop_next _ _ _ _ l.invariant.1 h c.vertex_layer-here.ensures.points)

pub returns : goal.returns
returns c = record { triples = loop_done _ _ _ _ c.loop-k.invariant.0 c.loop-k-test.false; points = loop_done _ _ _ _ c.loop-k.invariant.1 c.loop-k-test.false }

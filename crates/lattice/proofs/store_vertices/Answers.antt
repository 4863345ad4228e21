use native.Mathlib.Omega.{arith}
use Rattle.lists.proofs.Running.{room_first, stored_both, storing_start, storing_on, storing_room}
use Rattle.plan.specs.Vertices.{triple_at, point_at}
use Rattle.lattice.proofs.Tables.{vertices_split, room_box}
use Rattle.lattice.proofs.store_vertices.Goals as goal

pub vertex_box-here-requires : goal.vertex_box-here-requires
vertex_box-here-requires c =
    let p = c.args.p in
    let q = c.requires in
    (omega (arith, q.0), omega (arith, q.0), omega (arith, q.0), omega arith, record { triples = room_box triple_at 0 _ _ _ _ (room_first (vertices_split triple_at p) q.1.triples); points = room_box (point_at p) 0 _ _ _ _ (room_first (vertices_split (point_at p) p) q.1.points) })

pub vertex_box-requires : goal.vertex_box-requires
vertex_box-requires c =
    let p = c.args.p in
    let q = c.requires in
    let r = c.vertex_box-here.ensures in
    (omega (arith, q.0), omega (arith, q.0), omega (arith, q.0), omega arith, record { triples = storing_room (storing_on storing_start (vertices_split triple_at p) r.triples) q.1.triples; points = storing_room (storing_on storing_start (vertices_split (point_at p) p) r.points) q.1.points })

pub returns : goal.returns
returns c =
    let p = c.args.p in
    let r = c.vertex_box-here.ensures in
    let s = c.vertex_box.ensures in
    ((stored_both (vertices_split triple_at p).whole r.triples s.triples).kept, (stored_both (vertices_split (point_at p) p).whole r.points s.points).kept)

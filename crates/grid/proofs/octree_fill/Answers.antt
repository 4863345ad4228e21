use mathlib.Core.Path.{◌≡◌, sym, ap, ◌∙◌}
use Prim.Native.Nat.{ℕ, ◌*◌, ◌/◌}
use native.Mathlib.Omega.{arith}
use lib.ListN.{length}
use lib.Seq.{length-take-le}
use Rattle.lists.proofs.Tests.{told}
use Rattle.vertex_keys.proofs.Indexing.{short}
use Rattle.grid.specs.Step.{cell_count}
use Rattle.grid.proofs.WaysOut.{vertices_room, lent_full, length_triples, length_points, stocked_none, stocked_done}
use Rattle.grid.proofs.Octrees.{octree_vertex_count, octree_cell_count, octree_table, octree_triples, octree_points}
use Rattle.grid.proofs.octree_fill.Goals as goal

pub returns-then-lacks_vertices : goal.returns-then-lacks_vertices
returns-then-lacks_vertices c =
    let a = c.args in
    let h = c.requires in
    let k = rw c.roots-d.ensures at c.number_vertices-v.ensures in
    let ev = octree_vertex_count a.p a.split.now h.some _ _ (short _ _ k.lookup) k.keys in
    let e4 = h.cells in
    let en : length a.cells.now / 4 ≡ cell_count a.p a.split.now = omega arith in
    stocked_none a.p a.split.now _ _ _ _ en ev (c.fill.ensures.after (λ y e. e)) c.number_vertices-v.auto.work (told c.lacks_vertices.ensures c.if-lacks_vertices.true)

pub slice_bounds-store_vertices-end : goal.slice_bounds-store_vertices-end
slice_bounds-store_vertices-end c = (vertices_room _ _ _ (told c.lacks_vertices.ensures c.if-lacks_vertices.false)).0

pub slice_bounds-store_vertices-end-2 : goal.slice_bounds-store_vertices-end-2
slice_bounds-store_vertices-end-2 c = sym (length-take-le _ _ (vertices_room _ _ _ (told c.lacks_vertices.ensures c.if-lacks_vertices.false)).0)

pub slice_bounds-store_vertices-end-3 : goal.slice_bounds-store_vertices-end-3
slice_bounds-store_vertices-end-3 c = (vertices_room _ _ _ (told c.lacks_vertices.ensures c.if-lacks_vertices.false)).1

pub slice_bounds-store_vertices-end-4 : goal.slice_bounds-store_vertices-end-4
slice_bounds-store_vertices-end-4 c = sym (length-take-le _ _ (vertices_room _ _ _ (told c.lacks_vertices.ensures c.if-lacks_vertices.false)).1)

pub store_vertices-requires : goal.store_vertices-requires
store_vertices-requires c =
    let k = c.number_vertices-v.ensures in
    let r = vertices_room _ _ _ (told c.lacks_vertices.ensures c.if-lacks_vertices.false) in
    record {
      there = short _ _ k.lookup;
      small = k.small;
      triple_room = omega (arith, length-take-le _ c.args.triples.now r.0);
      point_room = omega (arith, length-take-le _ c.args.points.now r.1);
    }

pub store_cells-requires : goal.store_cells-requires
store_cells-requires c =
    let a = c.args in
    let h = c.requires in
    let k = rw c.roots-d.ensures at c.number_vertices-v.ensures in
    let m = h.numberable in
    rw c.roots-d.ensures (record {
      taken = (m.taken, record { fits = omega (arith, m.room, c.number_vertices-v.auto.work); many = m.leaves; here = k.list });
      out_len = h.cells ∙ ap (λ (i : ℕ). 4 * i) (octree_cell_count a.p a.split.now h.some);
    })

pub returns : goal.returns
returns c =
    let a = c.args in
    let h = c.requires in
    let k = rw c.roots-d.ensures at c.number_vertices-v.ensures in
    let sc = rw c.roots-d.ensures at c.store_cells.ensures in
    let ev = octree_vertex_count a.p a.split.now h.some _ _ (short _ _ k.lookup) k.keys in
    let e4 = h.cells in
    let en : length a.cells.now / 4 ≡ cell_count a.p a.split.now = omega arith in
    let lv = told c.lacks_vertices.ensures c.if-lacks_vertices.false in
    let r = vertices_room _ _ _ lv in
    let et = octree_triples a.p a.split.now h.some _ _ (short _ _ k.lookup) k.keys in
    let ep = octree_points a.p a.split.now h.some _ _ (short _ _ k.lookup) k.keys in
    let tl = ap length et ∙ length_triples a.p a.split.now ∙ ap (λ (i : ℕ). 3 * i) (sym ev) in
    let pl = ap length ep ∙ length_points a.p a.split.now ∙ ap (λ (i : ℕ). 3 * i) (sym ev) in
    let sv = c.store_vertices.ensures in
    stocked_done a.p a.split.now _ _ _ _ en ev (c.fill-2.ensures.after (λ y e. e)) c.number_vertices-v.auto.work lv h.cells
    (sc ∙ octree_table a.p a.split.now h.some _ _ (short _ _ k.lookup) k.keys)
    (lent_full _ _ _ tl r.0 sv.0 ∙ et)
    (lent_full _ _ _ pl r.1 sv.1 ∙ ep)

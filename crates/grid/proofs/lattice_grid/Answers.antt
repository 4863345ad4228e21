use mathlib.Core.Path.{◌≡◌, sym, ap, ◌∙◌}
use mathlib.Core.List.{[]}
use Prim.Native.Nat.{ℕ, ◌*◌}
use native.Mathlib.Omega.{arith}
use lib.ListN.{length}
use lib.Seq.{length-take-le}
use Rattle.lists.proofs.Running.{room_as}
use Rattle.lattice.specs.Lattice.{lattice_table}
use Rattle.plan.specs.Vertices.{dims_of, triple_at, point_at}
use Rattle.space.specs.Space.{Pos, ax, ay, az}
use Rattle.space.specs.Levels.{Counts}
use Rattle.plan.specs.Step.{most_lattice}
use Rattle.lattice.specs.Parts.{Dims, vertices_of}
use Rattle.lattice.proofs.Tables.{all_cells_lem}
use Rattle.grid.proofs.WaysOut.{cells_room, vertices_room, no_cells, no_vertices, done, lattice_cells_lem, lattice_triples, lattice_points, lattice_cell_count, lattice_vertex_count, lent_room, lent_full, length_cells, length_triples, length_points}
use Rattle.grid.proofs.lattice_grid.Goals as goal

dims : {d : Pos} → Counts most_lattice d → Dims (d ax) (d ay) (d az)
dims c = record { x_some = c.some ax; y_some = c.some ay; z_some = c.some az; x_few = c.few ax; y_few = c.few ay; z_few = c.few az }

pub count-n-requires : goal.count-n-requires
count-n-requires c = dims c.requires.0.dims

pub returns-then-lacks_cells : goal.returns-then-lacks_cells
returns-then-lacks_cells c =
    let q = c.args.p in
    let z = c.requires.1 in
    let k = c.count-n.ensures in
    let en = k.cells_are ∙ sym (lattice_cell_count q [] z) in
    no_cells q [] _ _ _ _ en (sym c.lacks_cells.ensures ∙ c.if-lacks_cells.true)

pub slice_bounds-fill-end : goal.slice_bounds-fill-end
slice_bounds-fill-end c = let lc = sym c.lacks_cells.ensures ∙ c.if-lacks_cells.false in omega (arith, (cells_room _ _ _ lc).1)

pub slice_bounds-fill-end-2 : goal.slice_bounds-fill-end-2
slice_bounds-fill-end-2 c = let lc = sym c.lacks_cells.ensures ∙ c.if-lacks_cells.false in sym (length-take-le _ _ (omega (arith, (cells_room _ _ _ lc).1)))

pub returns-then-lacks_vertices : goal.returns-then-lacks_vertices
returns-then-lacks_vertices c =
    let q = c.args.p in
    let z = c.requires.1 in
    let k = c.count-n.ensures in
    let en = k.cells_are ∙ sym (lattice_cell_count q [] z) in
    let ev = k.vertices_are ∙ sym (lattice_vertex_count q [] z) in
    let lc = sym c.lacks_cells.ensures ∙ c.if-lacks_cells.false in
    no_vertices q [] _ _ _ _ en ev lc (sym c.lacks_vertices.ensures ∙ c.if-lacks_vertices.true) (c.fill.ensures.after (λ y e. e))

pub slice_bounds-store_cells-end : goal.slice_bounds-store_cells-end
slice_bounds-store_cells-end c = let lc = sym c.lacks_cells.ensures ∙ c.if-lacks_cells.false in (cells_room _ _ _ lc).0

pub slice_bounds-store_cells-end-2 : goal.slice_bounds-store_cells-end-2
slice_bounds-store_cells-end-2 c = let lc = sym c.lacks_cells.ensures ∙ c.if-lacks_cells.false in sym (length-take-le _ _ (cells_room _ _ _ lc).0)

pub store_cells-requires : goal.store_cells-requires
store_cells-requires c =
    let q = c.args.p in
    let z = c.requires.1 in
    let k = c.count-n.ensures in
    let en = k.cells_are ∙ sym (lattice_cell_count q [] z) in
    let lc = sym c.lacks_cells.ensures ∙ c.if-lacks_cells.false in
    let cl : length (lattice_table (dims_of q)) ≡ 4 * c.count-n.result.cells = ap length (sym (lattice_cells_lem q [] z)) ∙ length_cells q [] ∙ ap (λ (i : ℕ). 4 * i) (sym en) in
    let h = c.requires.0 in
    (dims h.dims, room_as (sym (all_cells_lem (dims_of q))) (lent_room _ _ _ cl (cells_room _ _ _ lc).0))

pub slice_bounds-store_vertices-end : goal.slice_bounds-store_vertices-end
slice_bounds-store_vertices-end c = let lv = sym c.lacks_vertices.ensures ∙ c.if-lacks_vertices.false in (vertices_room _ _ _ lv).0

pub slice_bounds-store_vertices-end-2 : goal.slice_bounds-store_vertices-end-2
slice_bounds-store_vertices-end-2 c = let lv = sym c.lacks_vertices.ensures ∙ c.if-lacks_vertices.false in sym (length-take-le _ _ (vertices_room _ _ _ lv).0)

pub slice_bounds-store_vertices-end-3 : goal.slice_bounds-store_vertices-end-3
slice_bounds-store_vertices-end-3 c = let lv = sym c.lacks_vertices.ensures ∙ c.if-lacks_vertices.false in (vertices_room _ _ _ lv).1

pub slice_bounds-store_vertices-end-4 : goal.slice_bounds-store_vertices-end-4
slice_bounds-store_vertices-end-4 c = let lv = sym c.lacks_vertices.ensures ∙ c.if-lacks_vertices.false in sym (length-take-le _ _ (vertices_room _ _ _ lv).1)

pub store_vertices-requires : goal.store_vertices-requires
store_vertices-requires c =
    let q = c.args.p in
    let z = c.requires.1 in
    let k = c.count-n.ensures in
    let en = k.cells_are ∙ sym (lattice_cell_count q [] z) in
    let ev = k.vertices_are ∙ sym (lattice_vertex_count q [] z) in
    let lv = sym c.lacks_vertices.ensures ∙ c.if-lacks_vertices.false in
    let tl : length (vertices_of triple_at q) ≡ 3 * c.count-n.result.vertices = ap length (sym (lattice_triples q [] z)) ∙ length_triples q [] ∙ ap (λ (i : ℕ). 3 * i) (sym ev) in
    let pl : length (vertices_of (point_at q) q) ≡ 3 * c.count-n.result.vertices = ap length (sym (lattice_points q [] z)) ∙ length_points q [] ∙ ap (λ (i : ℕ). 3 * i) (sym ev) in
    let h = c.requires.0 in
    (dims h.dims, record { triples = lent_room _ _ _ tl (vertices_room _ _ _ lv).0; points = lent_room _ _ _ pl (vertices_room _ _ _ lv).1 })

pub returns : goal.returns
returns c =
    let q = c.args.p in
    let z = c.requires.1 in
    let k = c.count-n.ensures in
    let en = k.cells_are ∙ sym (lattice_cell_count q [] z) in
    let ev = k.vertices_are ∙ sym (lattice_vertex_count q [] z) in
    let lc = sym c.lacks_cells.ensures ∙ c.if-lacks_cells.false in
    let lv = sym c.lacks_vertices.ensures ∙ c.if-lacks_vertices.false in
    let cl : length (lattice_table (dims_of q)) ≡ 4 * c.count-n.result.cells = ap length (sym (lattice_cells_lem q [] z)) ∙ length_cells q [] ∙ ap (λ (i : ℕ). 4 * i) (sym en) in
    let tl : length (vertices_of triple_at q) ≡ 3 * c.count-n.result.vertices = ap length (sym (lattice_triples q [] z)) ∙ length_triples q [] ∙ ap (λ (i : ℕ). 3 * i) (sym ev) in
    let pl : length (vertices_of (point_at q) q) ≡ 3 * c.count-n.result.vertices = ap length (sym (lattice_points q [] z)) ∙ length_points q [] ∙ ap (λ (i : ℕ). 3 * i) (sym ev) in
    let sv = c.store_vertices.ensures in
    done q [] _ _ _ _ en ev lc lv
    (lent_full _ _ _ cl (cells_room _ _ _ lc).0 c.store_cells.ensures ∙ sym (lattice_cells_lem q [] z))
    (lent_full _ _ _ tl (vertices_room _ _ _ lv).0 sv.0 ∙ sym (lattice_triples q [] z))
    (lent_full _ _ _ pl (vertices_room _ _ _ lv).1 sv.1 ∙ sym (lattice_points q [] z))
    (c.fill.ensures.after (λ y e. e))

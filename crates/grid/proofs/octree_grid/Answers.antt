use mathlib.Core.Path.{sym, ap, ◌∙◌}
use Prim.Native.Nat.{ℕ, ◌*◌}
use native.Mathlib.Omega.{arith}
use lib.Seq.{length-take-le}
use Rattle.lists.proofs.Tests.{told}
use Rattle.octree.specs.Parts.{tree_of}
use Rattle.leaves.proofs.Walking.{six_each, some_leaf, cells_few}
use Rattle.plan.specs.Vertices.{dims_of}
use Rattle.plan.specs.Vertices.{roots_in}
use Rattle.grid.proofs.WaysOut.{cells_room, no_cells, fill_whole}
use Rattle.grid.proofs.Octrees.{octree_cell_count}
use Rattle.grid.proofs.octree_grid.Goals as goal

pub lacks_cells-requires : goal.lacks_cells-requires
lacks_cells-requires c =
    let k = rw c.roots.ensures at c.count_cells-n.ensures in
    omega (arith, k.of_cells, cells_few c.args.split.now (roots_in c.args.p) c.requires.1)

pub returns-then-lacks_cells : goal.returns-then-lacks_cells
returns-then-lacks_cells c =
    let a = c.args in
    let k = rw c.roots.ensures at c.count_cells-n.ensures in
    let en = k.of_cells ∙ sym (octree_cell_count a.p a.split.now c.requires.0) in
    no_cells a.p a.split.now _ _ _ _ en (told c.lacks_cells.ensures c.if-lacks_cells.true)

pub overflow_mul-need : goal.overflow_mul-need
overflow_mul-need c =
    let k = rw c.roots.ensures at c.count_cells-n.ensures in
    omega (arith, k.of_cells, cells_few c.args.split.now (roots_in c.args.p) c.requires.1)

pub slice_bounds-octree_fill-end : goal.slice_bounds-octree_fill-end
slice_bounds-octree_fill-end c = (cells_room _ _ _ (told c.lacks_cells.ensures c.if-lacks_cells.false)).0

pub slice_bounds-octree_fill-end-2 : goal.slice_bounds-octree_fill-end-2
slice_bounds-octree_fill-end-2 c = sym (length-take-le _ _ (cells_room _ _ _ (told c.lacks_cells.ensures c.if-lacks_cells.false)).0)

pub slice_bounds-octree_fill-end-3 : goal.slice_bounds-octree_fill-end-3
slice_bounds-octree_fill-end-3 c = (cells_room _ _ _ (told c.lacks_cells.ensures c.if-lacks_cells.false)).1

pub slice_bounds-octree_fill-end-4 : goal.slice_bounds-octree_fill-end-4
slice_bounds-octree_fill-end-4 c = sym (length-take-le _ _ (cells_room _ _ _ (told c.lacks_cells.ensures c.if-lacks_cells.false)).1)

pub octree_fill-requires : goal.octree_fill-requires
octree_fill-requires c =
    let a = c.args in
    let h = c.requires in
    let k = rw c.roots.ensures at c.count_cells-n.ensures in
    let en = k.of_cells ∙ sym (octree_cell_count a.p a.split.now h.0) in
    let r = cells_room _ _ _ (told c.lacks_cells.ensures c.if-lacks_cells.false) in
    let q = six_each a.p.levels (dims_of a.p) (tree_of (roots_in a.p) a.split.now) in
    let one = some_leaf a.split.now (roots_in a.p) h.1 in
    record {
      some = h.0;
      numberable = record { taken = h.1; octants = h.2; leaves = k.of_leaves; room = omega (arith, q, one, k.of_leaves, k.of_cells, length-take-le _ a.work.now r.1) };
      cells = length-take-le _ a.cells.now r.0 ∙ ap (λ (i : ℕ). 4 * i) en;
    }

pub returns : goal.returns
returns c =
    let a = c.args in
    let k = rw c.roots.ensures at c.count_cells-n.ensures in
    let en = k.of_cells ∙ sym (octree_cell_count a.p a.split.now c.requires.0) in
    fill_whole a.p a.split.now _ _ _ _ en (told c.lacks_cells.ensures c.if-lacks_cells.false) c.octree_fill.ensures

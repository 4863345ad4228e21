use Rattle.space.specs.Levels.{most_along}
use Rattle.octree_cells.specs.Leaf.{Reached}
use Rattle.sides.specs.Parts.{Taken}
use Rattle.octree.specs.declared.Octant.{Octant}
use mathlib.Core.List.{List}
use Rattle.octree.specs.declared.Roots.{Roots}
use Prim.Native.Nat.{ℕ, ◌<◌}
use native.Mathlib.Omega.{arith}
use Rattle.space.specs.Space.{ax, ay, az, Axis}
use Rattle.octree.specs.Parts.{place_of, roots_of, tree_of}
use Rattle.sides.proofs.Levels.{in_small}
use Rattle.leaves.specs.Parts.{alone, giving}
use Rattle.leaves.proofs.Lines.{kids_none}
use Rattle.leaves.proofs.Walking.{walked_both, walked_as, walked_none, byte_is, leaf_here, eight_leaves, eight_cells, left_split, one_leaf, own_cells, left_leaf, leaves_more, cells_more, left_child, left_rest, split_above}
use Rattle.leaves.proofs.+walk_children_walk_octant.Goals as goal

-- the place of an octant that is reached is small along each axis
small : (d : Roots) (s : List ℕ) (o : Octant) → Taken s d → Reached d.levels (roots_of d) (tree_of d s) o.level (place_of o) → (a : Axis) → place_of o a < most_along
small d s o h r a = in_small _ _ _ (place_of o) h.covers.roots h.covers.levels r.inside a

pub walk_children-overflow_mul-child : goal.walk_children-overflow_mul-child
walk_children-overflow_mul-child t c = omega (arith, small c.args.d c.args.split.now c.args.o c.requires.taken c.requires.left.reached ax)

pub walk_children-overflow_add-child : goal.walk_children-overflow_add-child
walk_children-overflow_add-child t c = omega (arith, small c.args.d c.args.split.now c.args.o c.requires.taken c.requires.left.reached ax)

pub walk_children-overflow_mul-child-else-left-eq0 : goal.walk_children-overflow_mul-child-else-left-eq0
walk_children-overflow_mul-child-else-left-eq0 t c = omega (arith, small c.args.d c.args.split.now c.args.o c.requires.taken c.requires.left.reached ay)

pub walk_children-overflow_add-child-else-left-eq0 : goal.walk_children-overflow_add-child-else-left-eq0
walk_children-overflow_add-child-else-left-eq0 t c = omega (arith, small c.args.d c.args.split.now c.args.o c.requires.taken c.requires.left.reached ay)

pub walk_children-overflow_mul-child-else-left-eq0-2 : goal.walk_children-overflow_mul-child-else-left-eq0-2
walk_children-overflow_mul-child-else-left-eq0-2 t c = omega (arith, small c.args.d c.args.split.now c.args.o c.requires.taken c.requires.left.reached az)

pub walk_children-overflow_add-child-else-left-eq0-2 : goal.walk_children-overflow_add-child-else-left-eq0-2
walk_children-overflow_add-child-else-left-eq0-2 t c = omega (arith, small c.args.d c.args.split.now c.args.o c.requires.taken c.requires.left.reached az)

pub walk_children-walk_octant-next-requires : goal.walk_children-walk_octant-next-requires
walk_children-walk_octant-next-requires t c =
    let f = c.requires in
    let e = f.left_bound.1 in
    let p : 0 < c.args.left = omega (arith, c.if-left-eq0.false) in (
      omega (arith, split_above _ _ f.taken c.args.o.level (place_of c.args.o) e),
      (f.taken, left_child _ _ f.taken c.args.o c.args.left p f.left f.left_bound.0 e),
    )

pub walk_children-walk_children-requires : goal.walk_children-walk_children-requires
walk_children-walk_children-requires t c =
    let f = c.requires in
    let p : 0 < c.args.left = omega (arith, c.if-left-eq0.false) in (
      omega arith,
      (f.taken, ((omega arith, f.left_bound.1), left_rest _ _ f.taken c.args.o c.args.left p f.left c.walk_octant-next.ensures)),
    )

pub walk_children-returns-then-left-eq0 : goal.walk_children-returns-then-left-eq0
walk_children-returns-then-left-eq0 t c =
    walked_none _ _ _ _ (kids_none _ alone _ _ c.args.left c.if-left-eq0.true) (kids_none _ (giving _ c.args.d) _ _ c.args.left c.if-left-eq0.true)

pub walk_children-returns-else-left-eq0 : goal.walk_children-returns-else-left-eq0
walk_children-returns-else-left-eq0 t c =
    let f = c.requires in
    let p : 0 < c.args.left = omega (arith, c.if-left-eq0.false) in
    walked_both (leaves_more _ _ f.taken c.args.o c.args.left p) (cells_more _ _ f.taken c.args.o c.args.left p) c.walk_octant-next.ensures c.walk_children.ensures

pub walk_octant-walk_children-requires : goal.walk_octant-walk_children-requires
walk_octant-walk_children-requires t c =
    let f = c.requires in
    let e = byte_is _ _ f.taken c.args.o f.left c.is_split.ensures c.if-is_split.true in (
      omega (arith, split_above _ _ f.taken c.args.o.level (place_of c.args.o) e),
      (f.taken, ((omega arith, e), left_split _ _ f.taken c.args.o e f.left)),
    )

pub walk_octant-note_leaf-requires : goal.walk_octant-note_leaf-requires
walk_octant-note_leaf-requires t c =
    let f = c.requires in
    let e = byte_is _ _ f.taken c.args.o f.left c.is_split.ensures c.if-is_split.false in
    let p = left_leaf _ _ f.taken c.args.o e f.left in
    record { taken = (f.taken, leaf_here _ _ f.taken c.args.o f.left e); leaves_bound = p.0; cells_bound = p.1 }

pub walk_octant-returns-then-is_split : goal.walk_octant-returns-then-is_split
walk_octant-returns-then-is_split t c =
    let f = c.requires in
    let e = byte_is _ _ f.taken c.args.o f.left c.is_split.ensures c.if-is_split.true in
    walked_as (eight_leaves _ _ f.taken c.args.o e) (eight_cells _ _ f.taken c.args.o e) c.walk_children.ensures

pub walk_octant-returns-else-is_split : goal.walk_octant-returns-else-is_split
walk_octant-returns-else-is_split t c =
    let f = c.requires in
    let e = byte_is _ _ f.taken c.args.o f.left c.is_split.ensures c.if-is_split.false in
    walked_as (one_leaf _ _ f.taken c.args.o e) (own_cells _ _ f.taken c.args.o e) c.note_leaf.ensures

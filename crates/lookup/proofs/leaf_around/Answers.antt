use mathlib.Core.Path.{refl, sym, ◌∙◌}
use mathlib.Core.Bool.{Bool}
use mathlib.Core.List.{List}
use Prim.Native.Nat.{ℕ, ◌/◌, ◌%◌}
use native.Mathlib.Omega.{arith}
use Rattle.lists.specs.Tests.{any}
use Rattle.lists.proofs.Any.{any_more, any_found, any_none}
use Rattle.space.specs.Space.{Pos, pos}
use Rattle.octree.specs.declared.Octant.{Octant}
use Rattle.octree.specs.declared.Roots.{Roots}
use Rattle.octree.specs.Parts.{roots_of, place_of, tree_of}
use Rattle.octree_cells.specs.Cells.{leaf_at}
use Rattle.lookup.proofs.Descent.{eight}
use Rattle.lookup.proofs.leaf_around.Goals as goal

-- whether the octant with this corner at the place is a leaf, and by the corner's number
abbrev leaf : List ℕ → Roots → Octant → Pos → Bool
leaf s d o q = leaf_at d.levels (roots_of d) (tree_of d s) o.level (place_of o) q

abbrev corners : List ℕ → Roots → Octant → ℕ → Bool
corners s d o n = leaf s d o (pos (n % 2) (n / 2 % 2) (n / 4))

pub loop-n-init : goal.loop-n-init
unfolding any
loop-n-init c = refl

pub returns-then-leaf_at : goal.returns-then-leaf_at
returns-then-leaf_at c = any_found (corners c.args.t.now.split.now c.args.t.now.roots c.args.o) 8 c.loop-n.n (omega (arith, c.loop-n-test.true)) (sym c.leaf_at.ensures ∙ c.if-leaf_at.true) ∙ eight (leaf c.args.t.now.split.now c.args.t.now.roots c.args.o)

pub loop-n-preserved : goal.loop-n-preserved
loop-n-preserved c = any_more (corners c.args.t.now.split.now c.args.t.now.roots c.args.o) _ c.loop-n.invariant (sym c.leaf_at.ensures ∙ c.if-leaf_at.false)

pub returns : goal.returns
returns c = any_none (corners c.args.t.now.split.now c.args.t.now.roots c.args.o) 8 _ c.loop-n.auto.n-end c.loop-n-test.false c.loop-n.invariant ∙ eight (leaf c.args.t.now.split.now c.args.t.now.roots c.args.o)

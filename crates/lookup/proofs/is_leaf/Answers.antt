use mathlib.Core.Path.{refl}
use Rattle.octree.specs.Parts.{roots_of, tree_of}
use Rattle.lookup.proofs.Theorems.{leaf_is}
use Rattle.lookup.proofs.is_leaf.Goals as goal

pub returns-in-Leaf : goal.returns-in-Leaf
returns-in-Leaf c = let a = c.args in leaf_is a.t.now.roots.levels (roots_of a.t.now.roots) (tree_of a.t.now.roots a.t.now.split.now) a.o c.in-Leaf.ensures refl

pub returns-in-Split : goal.returns-in-Split
returns-in-Split c = let a = c.args in leaf_is a.t.now.roots.levels (roots_of a.t.now.roots) (tree_of a.t.now.roots a.t.now.split.now) a.o c.in-Split.ensures refl

pub returns-in-Outside : goal.returns-in-Outside
returns-in-Outside c = let a = c.args in leaf_is a.t.now.roots.levels (roots_of a.t.now.roots) (tree_of a.t.now.roots a.t.now.split.now) a.o c.in-Outside.ensures refl

use mathlib.Core.Path.{◌∙◌}
use Rattle.lists.proofs.Tests.{passed}
use Rattle.octree.specs.Parts.{roots_of, tree_of}
use Rattle.lookup.proofs.Descent.{corner_in}
use Rattle.lookup.proofs.leaf_at.Goals as goal

pub returns : goal.returns
returns c =
    let a = c.args in
    c.is_leaf.ensures
    ∙ corner_in a.t.now.roots.levels (roots_of a.t.now.roots) (tree_of a.t.now.roots a.t.now.split.now) a.o.level a.o.x a.o.y a.o.z a.i a.j a.k (passed c.has_corner.ensures c.if-not-has_corner.false)

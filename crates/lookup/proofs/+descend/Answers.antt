use Rattle.std.proofs.Common.{◌∙◌, arith}
use Rattle.lists.proofs.Tests.{failed, passed}
use Rattle.octree.specs.Parts.{roots_of, tree_of}
use Rattle.lookup.proofs.Descent.{over_read, descent_leaf, descent_split, descent_down}
use Rattle.lookup.proofs.+descend.Goals as goal

pub returns-then-not-is_split : goal.returns-then-not-is_split
returns-then-not-is_split t c =
    let a = c.args in
    descent_leaf (tree_of a.t.now.roots a.t.now.split.now) a.o a.k c.ancestor-a.ensures
    (failed (over_read a.t.now.roots.levels (roots_of a.t.now.roots) (tree_of a.t.now.roots a.t.now.split.now) a.o a.k c.requires.0 c.requires.1 c.ancestor-a.ensures c.is_split.ensures) c.if-not-is_split.true)

pub returns-then-k-eq0 : goal.returns-then-k-eq0
returns-then-k-eq0 t c =
    let a = c.args in
    descent_split (tree_of a.t.now.roots a.t.now.split.now) a.o a.k c.if-k-eq0.true
    (passed (over_read a.t.now.roots.levels (roots_of a.t.now.roots) (tree_of a.t.now.roots a.t.now.split.now) a.o a.k c.requires.0 c.requires.1 c.ancestor-a.ensures c.is_split.ensures) c.if-not-is_split.false)

pub returns : goal.returns
returns t c =
    let a = c.args in
    c.descend.ensures
    ∙ descent_down (tree_of a.t.now.roots a.t.now.split.now) a.o a.k (omega (arith, c.if-k-eq0.false))
    (passed (over_read a.t.now.roots.levels (roots_of a.t.now.roots) (tree_of a.t.now.roots a.t.now.split.now) a.o a.k c.requires.0 c.requires.1 c.ancestor-a.ensures c.is_split.ensures) c.if-not-is_split.false)

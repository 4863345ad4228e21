use native.Mathlib.Omega.{arith}
use Rattle.lists.proofs.Tests.{failed, passed}
use Rattle.space.specs.Space.{pos}
use Rattle.octree.specs.Parts.{roots_of, tree_of}
use Rattle.lookup.proofs.Descent.{finest_none, off_grid, on_grid_lem}
use Rattle.lookup.proofs.has_finer_vertex.Goals as goal

pub returns-then-m-eq0 : goal.returns-then-m-eq0
returns-then-m-eq0 c = let a = c.args in finest_none a.t.now.roots.levels (roots_of a.t.now.roots) (tree_of a.t.now.roots a.t.now.split.now) (pos a.x a.y a.z) a.m c.if-m-eq0.true

pub returns-then-not-on_grid : goal.returns-then-not-on_grid
returns-then-not-on_grid c =
    let a = c.args in
    off_grid a.t.now.roots.levels (roots_of a.t.now.roots) (tree_of a.t.now.roots a.t.now.split.now) a.x a.y a.z a.m _ (omega (arith, c.if-m-eq0.false)) c.width-w.ensures.0 (failed c.on_grid.ensures c.if-not-on_grid.true)

pub returns : goal.returns
returns c =
    let a = c.args in
    on_grid_lem a.t.now.roots.levels (roots_of a.t.now.roots) (tree_of a.t.now.roots a.t.now.split.now) a.x a.y a.z a.m _ (omega (arith, c.if-m-eq0.false)) c.width-w.ensures.0 (passed c.on_grid.ensures c.if-not-on_grid.false) c.leaf_around.ensures

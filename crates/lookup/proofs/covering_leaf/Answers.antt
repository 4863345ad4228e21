use mathlib.Core.Path.{◌≡◌, ap, ◌∙◌}
use mathlib.Core.Bool.{Bool}
use Prim.Native.Nat.{ℕ, ◌-◌}
use native.Mathlib.Omega.{arith}
use Rattle.lists.proofs.Tests.{failed, passed}
use Rattle.space.specs.Space.{Pos}
use Rattle.octants.specs.Oct.{counts, within}
use Rattle.octants.proofs.Near.{within_in}
use Rattle.octree.specs.declared.Octant.{Octant}
use Rattle.octree.specs.declared.Level.{Level}
use Rattle.octree.specs.Parts.{roots_of, place_of, tree_of, counts_of, level_at}
use Rattle.octree.proofs.Levels.{level_counts}
use Rattle.lookup.proofs.Descent.{covered_outside, covered_inside}
use Rattle.lookup.proofs.covering_leaf.Goals as goal

-- what the test says, at the level of the octant
inside : (l : ℕ) (d : Pos) (o : Octant) {v : Level} {r : Bool} → v ≡ level_at d (l - o.level) → r ≡ within (counts_of v) (place_of o)
    → r ≡ within (counts l d o.level) (place_of o)
inside l d o f e = e ∙ ap (λ (n : Pos). within n (place_of o)) (level_counts d (l - o.level) f)

pub returns-then-not-is_inside : goal.returns-then-not-is_inside
returns-then-not-is_inside c =
    let a = c.args in
    covered_outside a.t.now.roots.levels (roots_of a.t.now.roots) (tree_of a.t.now.roots a.t.now.split.now) a.o (failed (inside a.t.now.roots.levels (roots_of a.t.now.roots) a.o c.level_at.ensures c.is_inside.ensures) c.if-not-is_inside.true)

pub descend-requires : goal.descend-requires
descend-requires c =
    let a = c.args in
    (omega (arith, c.requires), within_in (counts a.t.now.roots.levels (roots_of a.t.now.roots) a.o.level) (place_of a.o) (passed (inside a.t.now.roots.levels (roots_of a.t.now.roots) a.o c.level_at.ensures c.is_inside.ensures) c.if-not-is_inside.false))

pub returns : goal.returns
returns c =
    let a = c.args in
    c.descend.ensures ∙ covered_inside a.t.now.roots.levels (roots_of a.t.now.roots) (tree_of a.t.now.roots a.t.now.split.now) a.o (passed (inside a.t.now.roots.levels (roots_of a.t.now.roots) a.o c.level_at.ensures c.is_inside.ensures) c.if-not-is_inside.false)

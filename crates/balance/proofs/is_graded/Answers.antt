use mathlib.Core.Path.{◌≡◌, refl, sym, ◌∙◌}
use mathlib.Core.Bool.{Bool}
use mathlib.Core.List.{List}
use Prim.Native.Nat.{ℕ, suc}
use native.Mathlib.Omega.{arith}
use Rattle.lists.specs.Tests.{any}
use Rattle.lists.proofs.Any.{any_more}
use Rattle.space.specs.Levels.{depth, size}
use Rattle.octants.specs.Judge.{unsteady}
use Rattle.octants.proofs.TableLaws.{off_le}
use Rattle.octree.specs.Parts.{roots_of, counts_of, level_at}
use Rattle.octree.specs.declared.Level.{Level}
use Rattle.octree.specs.declared.Roots.{Roots}
use Rattle.balance.specs.Parts.{gives}
use Rattle.balance.proofs.Levelling.{level_asked, level_unsteady, graded_not, graded_all}
use Rattle.balance.proofs.is_graded.Goals as goal

-- what the level's test tells
told : (d : Roots) (s : List ℕ) (j : ℕ) {v : Level} {r : Bool} → v ≡ level_at (roots_of d) j → r ≡ any (size (counts_of v)) (gives s v)
    → r ≡ any (size (depth (roots_of d) j)) (unsteady (roots_of d) s j)
told d s j e f = f ∙ level_unsteady (roots_of d) j e s

pub loop-j-init : goal.loop-j-init
unfolding any
loop-j-init c = refl

pub level_unsteady-requires : goal.level_unsteady-requires
level_unsteady-requires c =
    let d = roots_of c.args.t.now.roots in
    let p = c.args.t.now.covers in
    let l = c.loop-j in
    level_asked d l.j c.level_at.ensures p.roots (omega (arith, p.levels, c.loop-j-test.true))
    (omega (arith, p.octants, off_le d (suc (suc l.j)) c.args.t.now.roots.levels (omega (arith, c.loop-j-test.true))))

pub returns-then-level_unsteady : goal.returns-then-level_unsteady
returns-then-level_unsteady c =
    let a = c.args.t.now in
    let l = c.loop-j in
    graded_not (roots_of a.roots) a.roots.levels l.j a.split.now c.loop-j-test.true (sym (told c.args.t.now.roots c.args.t.now.split.now c.loop-j.j c.level_at.ensures c.level_unsteady.ensures) ∙ c.if-level_unsteady.true)

pub loop-j-preserved : goal.loop-j-preserved
loop-j-preserved c = any_more _ _ c.loop-j.invariant (sym (told c.args.t.now.roots c.args.t.now.split.now c.loop-j.j c.level_at.ensures c.level_unsteady.ensures) ∙ c.if-level_unsteady.false)

pub returns : goal.returns
returns c =
    let a = c.args.t.now in
    let l = c.loop-j in
    graded_all (roots_of a.roots) a.roots.levels l.j a.split.now l.auto.j-end c.loop-j-test.false l.invariant

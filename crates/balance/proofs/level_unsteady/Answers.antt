use mathlib.Core.Path.{refl, sym, ◌∙◌}
use mathlib.Core.Bool.{Bool}
use mathlib.Core.List.{List}
use Rattle.octree.specs.declared.Level.{Level}
use Prim.Native.Nat.{ℕ, ◌+◌, ◌*◌}
use native.Mathlib.Omega.{arith}
use Rattle.lists.specs.Tests.{any}
use Rattle.lists.proofs.Any.{any_more, any_found, any_none}
use Rattle.octants.proofs.Levels.{rows_few}
use Rattle.balance.specs.Parts.{gives}
use Rattle.balance.proofs.Rowing.{level_gives}
use Rattle.balance.proofs.level_unsteady.Goals as goal

-- whether row q has an octant that the balance would split
abbrev rows : List ℕ → Level → ℕ → Bool
rows s v q = any v.nx (λ x. gives s v (q * v.nx + x))

pub overflow_mul-q-end : goal.overflow_mul-q-end
overflow_mul-q-end c = omega (arith, rows_few c.requires.stacked.counts)

pub loop-q-init : goal.loop-q-init
unfolding any
loop-q-init c = refl

pub returns-then-row_unsteady : goal.returns-then-row_unsteady
returns-then-row_unsteady c =
    let v = c.args.v in
    any_found (rows c.args.s.now c.args.v) (v.ny * v.nz) c.loop-q.q c.loop-q-test.true (sym c.row_unsteady.ensures ∙ c.if-row_unsteady.true)
    ∙ level_gives v.nx v.ny v.nz (gives c.args.s.now v)

pub loop-q-preserved : goal.loop-q-preserved
loop-q-preserved c = any_more (rows c.args.s.now c.args.v) _ c.loop-q.invariant (sym c.row_unsteady.ensures ∙ c.if-row_unsteady.false)

pub returns : goal.returns
returns c =
    let v = c.args.v in
    any_none (rows c.args.s.now c.args.v) (v.ny * v.nz) _ c.loop-q.auto.q-end c.loop-q-test.false c.loop-q.invariant
    ∙ level_gives v.nx v.ny v.nz (gives c.args.s.now v)

use mathlib.Core.Path.{◌≡◌, refl, sym, ap, ◌∙◌}
use mathlib.Core.Bool.{Bool, not, ◌&&◌}
use Prim.Native.Nat.{◌+◌}
use Rattle.lists.specs.Tests.{any}
use Rattle.lists.proofs.Any.{any_more, any_found}
use Rattle.octree.specs.Sweep.{one}
use Rattle.balance.specs.Parts.{touched_of}
use Rattle.balance.proofs.row_gives.Goals as goal

pub loop-x-init : goal.loop-x-init
unfolding any
loop-x-init c = refl

-- the test of a turn is the test at x
test : (b t r : Bool) {u : Bool} → t ≡ u → r ≡ (not b && t) → not b && u ≡ r
test b t r e f = ap (λ (t : Bool). not b && t) (sym e) ∙ sym f

pub returns-then-is_unsteady : goal.returns-then-is_unsteady
returns-then-is_unsteady c =
    let a = c.args in
    any_found (λ k. not (one a.s.now (a.i + k)) && touched_of a.seen.now k) a.n c.loop-x.x c.loop-x-test.true (test _ _ _ c.touched.ensures c.is_unsteady.ensures ∙ c.if-is_unsteady.true)

pub loop-x-preserved : goal.loop-x-preserved
loop-x-preserved c = any_more _ _ c.loop-x.invariant (test _ _ _ c.touched.ensures c.is_unsteady.ensures ∙ c.if-is_unsteady.false)

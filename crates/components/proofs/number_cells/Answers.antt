use mathlib.Core.Path.{refl, sym, ◌∙◌}
use mathlib.Core.Logic.{inl, inr}
use native.Mathlib.Omega.{arith}
use lib.ListN.{drop}
use lib.Seq.{length-take-le}
use Rattle.components.proofs.Counting.{counting_start, counting_step, counting_done, turn_of, first_point, alike}
use Rattle.components.proofs.number_cells.Goals as goal
use Rattle.components.proofs.number_cells.Goals.{else-k-count, then-k-count}

pub returns-then-one : goal.returns-then-one
returns-then-one c = alike _ _ _ c.requires.0 (sym c.requires.1 ∙ c.if-one.true) _ _ _ c.requires.2 (c.fill.ensures.after (λ y e. e)) (omega arith)

pub loop-i-init : goal.loop-i-init
loop-i-init c = let p = c.requires.0 in (refl, p.long, refl, counting_start _ _ _ _ _ _ (length-take-le _ _ (omega (arith, p.long))) p.zeros p.joint.forest)

pub loop-i-preserved : goal.loop-i-preserved
loop-i-preserved c =
    let p = c.requires.0 in
    let n = c.args.n in
    let l = c.loop-i in
    let x = c.number_at-k in
    let h = c.loop-i-test.true in (
      refl,
      x.auto.work ∙ l.invariant.1,
      x.ensures.parents ∙ l.invariant.2,
      rw c.store.ensures
          (counting_step _ _ _ _ _ _ _ _ _ l.invariant.3 h (drop n x.new.work) x.result (first_point p.cells h) (turn_of _ _ _ _ l.invariant.2 refl x.ensures.number) _
          (elim c.if-k-count.branch [ then-k-count a ↦ inl (a.if-k-count.true, a.count-is) | else-k-count a ↦ inr (a.if-k-count.false, a.count-is) ])),
    )

pub returns : goal.returns
returns c = let p = c.requires.0 in counting_done _ _ _ c.loop-i.invariant.3.size_p p.cells p.joint p.level c.loop-i.invariant.3 (omega (arith, c.loop-i.invariant.0, c.loop-i-test.false))

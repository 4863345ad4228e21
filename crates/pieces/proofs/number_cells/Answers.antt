use mathlib.Core.Path.{refl}
use mathlib.Core.Logic.{inl, inr}
use Rattle.pieces.proofs.Numbering.{turning_start, turning_on, turning_done}
use Rattle.pieces.proofs.number_cells.Goals as goal
use Rattle.pieces.proofs.number_cells.Goals.{else-k-count, then-k-count}

pub loop-i-init : goal.loop-i-init
loop-i-init c = turning_start _ _ _ _ c.requires refl c.settle.auto.work c.settle.ensures

pub loop-i-preserved : goal.loop-i-preserved
loop-i-preserved c =
    let x = c.number_at-k in
    rw c.store.ensures
    (turning_on c.loop-i.invariant c.loop-i-test.true x.new.work x.result x.auto.work x.ensures _
    (elim c.if-k-count.branch [ then-k-count a ↦ inl (a.if-k-count.true, a.count-is) | else-k-count a ↦ inr (a.if-k-count.false, a.count-is) ]))

pub returns : goal.returns
returns c = turning_done _ _ c.settle.ensures c.loop-i.invariant c.loop-i-test.false

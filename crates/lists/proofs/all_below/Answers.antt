use mathlib.Core.Path.{sym, ap, ◌∙◌}
use mathlib.Core.Bool.{Bool, ◌&&◌, and-true}
use Prim.Native.Nat.{◌+◌, ◌<◌}
use lib.ListN.{length, drop}
use Rattle.lists.specs.Tables.{all_below}
use Rattle.lists.proofs.Lent.{below_on, below_off, below_end}
use Rattle.lists.proofs.Tests.{falls, stays}
use Rattle.lists.proofs.all_below.Goals as goal
use Rattle.lists.proofs.all_below.Goals.{else-bound-x, then-bound-x}

pub loop-x-preserved : goal.loop-x-preserved
loop-x-preserved c =
    let l = c.loop-x in
    let s = c.args in
    let h : l.x-index < length s.table.now = c.loop-x-test.true in
    l.invariant
    ∙ elim c.if-bound-x.branch [ then-bound-x w ↦ falls l.below (all_below s.bound (drop (l.x-index + 1) s.table.now)) (below_off _ _ _ h w.if-bound-x.true) w.below-is | else-bound-x w ↦ stays l.below (below_on _ _ _ h w.if-bound-x.false) w.below-is ]

pub returns : goal.returns
returns c = sym (c.loop-x.invariant ∙ ap (λ (t : Bool). c.loop-x.below && t) (below_end _ _ _ c.loop-x-test.false) ∙ and-true _)

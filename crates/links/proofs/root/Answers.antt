use mathlib.Core.Path.{refl}
use Rattle.links.proofs.Climbing.{climb_step}
use Rattle.links.proofs.root.Goals as goal

pub loop-q-preserved : goal.loop-q-preserved
loop-q-preserved c =
    let l = c.loop-q in
    climb_step _ l.parent _ l.i l.p l.q l.invariant _ _ refl refl _ refl

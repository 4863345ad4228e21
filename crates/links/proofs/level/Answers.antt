use mathlib.Core.Path.{refl}
use mathlib.Core.Logic.{inl, inr}
use native.Mathlib.Omega.{arith}
use Rattle.links.proofs.Levelling.{level_start, level_step}
use Rattle.links.proofs.level.Goals as goal
use Rattle.links.proofs.level.Goals.{else-q-ne0, then-q-ne0}

pub loop-i-init : goal.loop-i-init
loop-i-init c = level_start _ c.requires

pub loop-i-preserved : goal.loop-i-preserved
loop-i-preserved c =
    let l = c.loop-i in
    level_step _ l.parent _ _ l.invariant (omega (arith, l.invariant.size)) _ refl _ refl _
    (elim c.if-q-ne0.branch [ then-q-ne0 w ↦ inl (w.if-q-ne0.true, w.one-is) | else-q-ne0 w ↦ inr (w.if-q-ne0.false, w.one-is) ])

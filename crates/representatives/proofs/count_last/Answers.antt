use mathlib.Core.Path.{refl}
use mathlib.Core.Logic.{inl, inr}
use native.Mathlib.Omega.{arith}
use Rattle.lists.specs.Runs.{run, those}
use Rattle.representatives.proofs.Listing.{counted}
use Rattle.lists.proofs.Passing.{count_next}
use Rattle.representatives.proofs.count_last.Goals as goal
use Rattle.representatives.proofs.count_last.Goals.{else-is_last, then-is_last}

pub loop-i-init : goal.loop-i-init
unfolding those run
loop-i-init c = (omega arith, refl)

pub loop-i-preserved : goal.loop-i-preserved
loop-i-preserved c = (
  elim c.if-is_last.branch [ then-is_last a ↦ omega (arith, a.count-is, c.loop-i.invariant.0) | else-is_last a ↦ omega (arith, a.count-is, c.loop-i.invariant.0) ],
  count_next _ _ c.loop-i.invariant.1 c.is_last.ensures (elim c.if-is_last.branch [ then-is_last a ↦ inl (a.if-is_last.true, a.count-is) | else-is_last a ↦ inr (a.if-is_last.false, a.count-is) ]),
)

pub returns : goal.returns
returns c = counted _ _ _ _ c.requires c.loop-i.invariant.1 c.loop-i.invariant.0 (omega (arith, c.loop-i.auto.i-end, c.loop-i-test.false))

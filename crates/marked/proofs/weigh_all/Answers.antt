use mathlib.Core.Path.{refl}
use Rattle.marked.proofs.Weighing.{tallying_start, tallying_step}
use Rattle.marked.proofs.weigh_all.Goals as goal

pub loop-i-init : goal.loop-i-init
loop-i-init c = tallying_start _ _ _ _ _ _ c.requires.0 c.requires.1 refl

pub loop-i-preserved : goal.loop-i-preserved
loop-i-preserved c = tallying_step _ _ _ _ _ _ _ _ _ _ c.loop-i.invariant c.loop-i-test.true c.weigh-counts.auto.work c.weigh-counts.ensures

use native.Mathlib.Omega.{arith}
use Rattle.groups.proofs.Noting.{lasting_step, lasting_done}
use Rattle.groups.proofs.note_lasts.Goals as goal

pub loop-i-preserved : goal.loop-i-preserved
loop-i-preserved c = lasting_step _ _ _ _ _ _ _ c.loop-i.invariant (λ z. (c.requires.noted c.loop-i.i c.loop-i-test.true z).1) c.note_last.ensures

pub returns : goal.returns
returns c = lasting_done _ _ _ _ _ _ c.requires c.loop-i.invariant (omega (arith, c.loop-i.auto.i-end, c.loop-i-test.false))

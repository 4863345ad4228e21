use Prim.Native.Nat.{◌^◌}
use native.Mathlib.Omega.{arith}
use borrow.Author.Tests.{eq-eqb, ne_eqb}
use lib.Dec.{le→leb}
use lib.Ieee.{in_float}
use Rattle.plan.specs.Step.{scale_of}
use Rattle.plan.proofs.scaled.Goals as goal

pub returns-then-levels-eq0 : goal.returns-then-levels-eq0
unfolding scale_of
returns-then-levels-eq0 c = simp (eq-eqb _ _ c.if-levels-eq0.true)

pub int_to_float-result : goal.int_to_float-result
unfolding in_float
int_to_float-result c = le→leb c.width_of-w.result (2 ^ 24) (omega arith)

pub returns : goal.returns
unfolding scale_of
returns c = simp (ne_eqb _ _ c.if-levels-eq0.false, c.width_of-w.ensures.value)

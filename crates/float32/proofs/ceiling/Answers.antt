use Rattle.std.proofs.Common.{◌≡◌, ◌∙◌, ◌+◌, ◌^◌, arith, le→leb, below_more}
use lib.Ieee.{in_float}
use Rattle.float32.proofs.Wholes.{stays, exceeds}
use Rattle.float32.proofs.Theorems.{first_is}
use Rattle.float32.proofs.ceiling.Goals as goal

pub loop-n-init : goal.loop-n-init
loop-n-init c = record { within = omega (arith, c.start-n.ensures.within); before = c.start-n.ensures.before }

pub int_to_float-n : goal.int_to_float-n
unfolding in_float
int_to_float-n c = le→leb c.loop-n.n (2 ^ 24) (omega arith)

pub loop-n-preserved : goal.loop-n-preserved
loop-n-preserved c =
    record { within = omega arith; before = below_more _ _ c.loop-n.invariant.before (exceeds c.loop-n.n c.args.x (omega arith) c.if-not-x-n.false) }

pub returns-then-not-x-n : goal.returns-then-not-x-n
returns-then-not-x-n c =
    let a = c.args in
    first_is a.most a.x c.loop-n.n c.loop-n.invariant (λ g. stays c.loop-n.n a.x (omega arith) c.if-not-x-n.true)

pub returns : goal.returns
returns c =
    let a = c.args in
    let e : a.most + 1 ≡ c.loop-n.n = omega (arith, c.start-n.ensures.within) in
    e ∙ first_is a.most a.x c.loop-n.n c.loop-n.invariant (λ g. absurd (omega arith))

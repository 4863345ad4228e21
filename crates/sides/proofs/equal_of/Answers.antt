use Rattle.sides.proofs.Laws.{equal_low, equal_high}
use Rattle.sides.proofs.equal_of.Goals as goal

pub returns-then-not-high : goal.returns-then-not-high
returns-then-not-high c = equal_low _ _ _ _ _ _ _ c.if-not-high.true

pub returns : goal.returns
returns c =
    equal_high _ _ _ _ _ _ _ _ _ _ _ _ _ c.if-not-high.false c.step_to.ensures c.step_to-2.ensures
    c.either_in-e0.ensures c.either_in-e1.ensures c.either_in-e2.ensures c.either_in-e3.ensures

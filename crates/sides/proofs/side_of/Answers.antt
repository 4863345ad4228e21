use mathlib.Core.Path.{◌∙◌}
use Rattle.lists.proofs.Tests.{failed, passed, told}
use Rattle.sides.proofs.Laws.{side_border, side_split, side_root, side_equal, side_coarser}
use Rattle.sides.proofs.side_of.Goals as goal

pub returns-then-not-reach : goal.returns-then-not-reach
returns-then-not-reach c = side_border _ _ _ _ _ _ _ _ (failed c.reach.ensures c.if-not-reach.true)

pub returns-then-split_in : goal.returns-then-split_in
returns-then-split_in c = side_split _ _ _ _ _ _ _ _ _ c.step_to-y.ensures (passed c.reach.ensures c.if-not-reach.false) (told c.split_in.ensures c.if-split_in.true)

pub returns-then-l : goal.returns-then-l
returns-then-l c =
    c.equal_of.ensures
    ∙ side_root _ _ _ _ _ _ _ _ _ c.step_to-y.ensures (passed c.reach.ensures c.if-not-reach.false) (told c.split_in.ensures c.if-split_in.false) c.if-l.true

pub returns-then-split_in-2 : goal.returns-then-split_in-2
returns-then-split_in-2 c =
    c.equal_of-then-split_in-2.ensures
    ∙ side_equal _ _ _ _ _ _ _ _ _ c.step_to-y.ensures (passed c.reach.ensures c.if-not-reach.false) (told c.split_in.ensures c.if-split_in.false) c.if-l.false
    (told c.split_in-2.ensures c.if-split_in-2.true)

pub returns : goal.returns
returns c =
    side_coarser _ _ _ _ _ _ _ _ _ c.step_to-y.ensures (passed c.reach.ensures c.if-not-reach.false) _ (told c.split_in.ensures c.if-split_in.false) c.if-l.false
    (told c.split_in-2.ensures c.if-split_in-2.false) c.turn_of.ensures

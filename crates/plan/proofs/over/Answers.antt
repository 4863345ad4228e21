use Rattle.plan.specs.Step.{axes_of, counted}
use Rattle.lists.proofs.Tests.{above, within, told}
use Rattle.plan.proofs.Axes.{few_three, covered}
use Rattle.plan.proofs.over.Goals as goal

pub returns-in_default : goal.returns-in_default
unfolding axes_of counted
returns-in_default c = simp (told c.along.ensures c.in_default.is)

pub returns-in_default-along : goal.returns-in_default-along
unfolding axes_of counted
returns-in_default-along c = simp (told c.along.ensures c.in-Some.is, told c.along-2.ensures c.in_default-along.is)

pub returns-in_default-along-2 : goal.returns-in_default-along-2
unfolding axes_of counted
returns-in_default-along-2 c = simp (told c.along.ensures c.in-Some.is, told c.along-2.ensures c.in-Some-along.is, told c.along-3.ensures c.in_default-along-2.is)

pub count-n-requires : goal.count-n-requires
count-n-requires c =
    let a = c.args in
    few_three
    (covered a.s a.c a.b.x0 a.b.x1 _ c.requires.small (told c.along.ensures c.in-Some.is))
    (covered a.s a.c a.b.y0 a.b.y1 _ c.requires.small (told c.along-2.ensures c.in-Some-along.is))
    (covered a.s a.c a.b.z0 a.b.z1 _ c.requires.small (told c.along-3.ensures c.in-Some-along-2.is))
    c.requires.levels_le_most_levels

pub returns-then-n : goal.returns-then-n
unfolding axes_of counted
returns-then-n c = simp (told c.along.ensures c.in-Some.is, told c.along-2.ensures c.in-Some-along.is, told c.along-3.ensures c.in-Some-along-2.is, above c.count-n.ensures c.if-n.true)

pub returns : goal.returns
unfolding axes_of counted
returns c = simp (told c.along.ensures c.in-Some.is, told c.along-2.ensures c.in-Some-along.is, told c.along-3.ensures c.in-Some-along-2.is, within c.count-n.ensures c.if-n.false, c.count-n.ensures)

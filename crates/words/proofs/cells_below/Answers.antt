use mathlib.Core.Path.{sym, ◌∙◌}
use Rattle.lists.proofs.Tests.{failed, passed}
use Rattle.words.proofs.Turns.{below_by, below_all}
use Rattle.words.proofs.cells_below.Goals as goal

pub returns-then-not-four_below : goal.returns-then-not-four_below
returns-then-not-four_below c = sym (c.loop-i.invariant ∙ below_by _ _ _ _ _ _ _ c.loop-i-test.true (failed c.four_below.ensures c.if-not-four_below.true))

pub loop-i-preserved : goal.loop-i-preserved
loop-i-preserved c = c.loop-i.invariant ∙ below_by _ _ _ _ _ _ _ c.loop-i-test.true (passed c.four_below.ensures c.if-not-four_below.false)

pub returns : goal.returns
returns c = sym (c.loop-i.invariant ∙ below_all _ _ _ _ _ _ _ c.loop-i-test.false)

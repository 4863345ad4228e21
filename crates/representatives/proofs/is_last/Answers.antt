use Rattle.lists.proofs.Tests.{failed, passed}
use Rattle.representatives.specs.Parts.{is_last}
use Rattle.representatives.proofs.is_last.Goals as goal

pub returns-then-not-is_free : goal.returns-then-not-is_free
unfolding is_last
returns-then-not-is_free c = rw (failed c.is_free.ensures c.if-not-is_free.true)

pub returns : goal.returns
unfolding is_last
returns c = rw (passed c.is_free.ensures c.if-not-is_free.false, c.label_at.ensures)

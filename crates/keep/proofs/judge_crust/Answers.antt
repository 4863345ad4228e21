use Rattle.refusals.specs.Rows.{first}
use Rattle.lists.proofs.Tests.{failed, passed}
use Rattle.keep.specs.Step.{crust_rows}
use Rattle.keep.proofs.judge_crust.Goals as goal

pub returns-then-not-is_size : goal.returns-then-not-is_size
unfolding crust_rows first
returns-then-not-is_size c = rw (failed c.is_size.ensures c.if-not-is_size.true)

pub returns : goal.returns
unfolding crust_rows first
returns c = rw (passed c.is_size.ensures c.if-not-is_size.false) c.judge.ensures

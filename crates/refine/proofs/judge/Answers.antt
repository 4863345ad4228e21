use borrow.Author.Tests.{eq-eqb, ne_eqb}
use Rattle.refusals.specs.Rows.{first}
use Rattle.refusals.specs.Causes.{each_rows, answer_rows}
use Rattle.lists.proofs.Tests.{failed, passed}
use Rattle.refine.specs.Step.{crossing_rows}
use Rattle.refine.proofs.judge.Goals as goal

pub returns-then-crossing-n : goal.returns-then-crossing-n
unfolding crossing_rows each_rows answer_rows first
returns-then-crossing-n c = rw (ne_eqb _ _ c.if-crossing-n.true)

pub returns-then-not-all_at_most : goal.returns-then-not-all_at_most
unfolding crossing_rows each_rows answer_rows first
returns-then-not-all_at_most c = rw (eq-eqb _ _ c.if-crossing-n.false, failed c.all_at_most.ensures c.if-not-all_at_most.true)

pub returns : goal.returns
unfolding crossing_rows each_rows answer_rows first
returns c = rw (eq-eqb _ _ c.if-crossing-n.false, passed c.all_at_most.ensures c.if-not-all_at_most.false)

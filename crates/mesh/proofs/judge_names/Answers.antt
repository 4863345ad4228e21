use Rattle.lists.proofs.Tests.{failed, passed}
use Rattle.refusals.specs.Rows.{first}
use Rattle.mesh.specs.Judged.{name_rows}
use Rattle.mesh.proofs.judge_names.Goals as goal

pub returns-then-not-all_below : goal.returns-then-not-all_below
unfolding first name_rows
returns-then-not-all_below c = rw (failed c.all_below.ensures c.if-not-all_below.true)

pub returns : goal.returns
unfolding first name_rows
returns c = rw (passed c.all_below.ensures c.if-not-all_below.false)

use borrow.Author.Tests.{lt-ltb, le-ltb}
use Rattle.lists.proofs.Tests.{failed, passed}
use Rattle.refusals.specs.Rows.{first}
use Rattle.mesh.specs.Judged.{count_rows, name_rows}
use Rattle.file_steps.specs.Reader.{content_rows}
use Rattle.file_steps.proofs.judge_content.Goals as goal

pub returns-then-p-gt-MOST : goal.returns-then-p-gt-MOST
unfolding content_rows count_rows name_rows first
returns-then-p-gt-MOST c = rw (lt-ltb _ _ c.if-p-gt-MOST.true)

pub returns-then-n-gt-MOST : goal.returns-then-n-gt-MOST
unfolding content_rows count_rows name_rows first
returns-then-n-gt-MOST c = rw (le-ltb _ _ c.if-p-gt-MOST.false, lt-ltb _ _ c.if-n-gt-MOST.true)

pub returns-then-not-cells_below : goal.returns-then-not-cells_below
unfolding content_rows count_rows name_rows first
returns-then-not-cells_below c = rw (le-ltb _ _ c.if-p-gt-MOST.false, le-ltb _ _ c.if-n-gt-MOST.false, failed c.cells_below.ensures c.if-not-cells_below.true)

pub returns : goal.returns
unfolding content_rows count_rows name_rows first
returns c = rw (le-ltb _ _ c.if-p-gt-MOST.false, le-ltb _ _ c.if-n-gt-MOST.false, passed c.cells_below.ensures c.if-not-cells_below.false)

use Rattle.marks.proofs.Counting.{count_one, count_none, count_done}
use Rattle.marks.proofs.count.Goals as goal
use Rattle.marks.proofs.count.Goals.{else-mark-kind, then-mark-kind}

pub loop-mark-preserved : goal.loop-mark-preserved
loop-mark-preserved c =
    let l = c.loop-mark in
    elim c.if-mark-kind.branch [
      | then-mark-kind w ↦ rw w.many-is (count_one l.invariant c.loop-mark-test.true w.if-mark-kind.true)
      | else-mark-kind w ↦ rw w.many-is (count_none l.invariant c.loop-mark-test.true w.if-mark-kind.false)
    ]

pub returns : goal.returns
returns c = count_done c.loop-mark.invariant c.loop-mark-test.false

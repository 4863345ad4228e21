use Rattle.lists.proofs.Tests.{failed, passed}
use Rattle.vtk_reader.proofs.Judging.{looking_on, looking_past, looking_off, looking_all, looking_some}
use Rattle.vtk_reader.proofs.judge_cells.Goals as goal
use Rattle.vtk_reader.proofs.judge_cells.Goals.{else-not-four_below, then-not-four_below}

pub returns-then-word-ne4 : goal.returns-then-word-ne4
returns-then-word-ne4 c = looking_off _ _ _ _ _ _ c.loop-i.invariant _ c.loop-i-test.true c.word.ensures c.if-word-ne4.true

pub loop-i-preserved : goal.loop-i-preserved
loop-i-preserved c =
    let w = c.loop-i.invariant in
    let h = c.loop-i-test.true in
    let e = c.word.ensures in
    let f = c.if-word-ne4.false in
    let r = c.four_below.ensures in
    elim c.if-not-four_below.branch [ then-not-four_below k ↦ looking_past _ _ _ _ _ _ w h e f (failed r k.if-not-four_below.true) k.named-is | else-not-four_below k ↦ looking_on _ _ _ _ _ _ w h e f (passed r k.if-not-four_below.false) k.named-is ]

pub returns-then-not-named : goal.returns-then-not-named
returns-then-not-named c = looking_some _ _ _ _ _ _ c.loop-i.invariant c.loop-i-test.false c.if-not-named.true

pub returns : goal.returns
returns c = looking_all _ _ _ _ _ _ c.loop-i.invariant c.loop-i-test.false c.if-not-named.false

use Rattle.balance.specs.Parts.{in_row}
use Rattle.balance.proofs.Merging.{marks_none, marks_more}
use Rattle.balance.proofs.merge_rows.Goals as goal

pub loop-y-init : goal.loop-y-init
loop-y-init c = let a = c.args in marks_none _ _ _ (in_row a.s.now a.o a.w)

pub loop-y-preserved : goal.loop-y-preserved
loop-y-preserved c = let a = c.args in marks_more _ _ (in_row a.s.now a.o a.w) c.loop-y.auto.y c.loop-y.invariant c.merge_row.ensures

use Rattle.marks.proofs.Counting.{Counting}
use Rattle.marks.proofs.count.Given as goal

abbrev pub invariant-loop-mark : goal.invariant-loop-mark
invariant-loop-mark l = Counting l.kind l.marks l.mark-index l.many

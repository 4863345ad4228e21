use Rattle.balance.specs.Parts.{Merged, in_rows}
use Rattle.balance.proofs.merge_rows.Given as goal

abbrev pub invariant-loop-y : goal.invariant-loop-y
invariant-loop-y l = Merged l.initial.seen l.seen l.w (in_rows l.s l.o l.w l.y0 l.y)

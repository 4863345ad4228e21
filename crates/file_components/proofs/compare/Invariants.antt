use Rattle.file_components.proofs.Comparing.{Comparing}
use Rattle.file_components.proofs.compare.Given as goal

abbrev pub invariant-loop-i : goal.invariant-loop-i
invariant-loop-i l = Comparing l.file l.s l.work l.n l.count l.i

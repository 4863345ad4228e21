use Rattle.marked.proofs.Placing.{Copying}
use Rattle.marked.proofs.store_points.Given as goal

abbrev pub invariant-loop-v : goal.invariant-loop-v
invariant-loop-v l = Copying l.points l.numbers l.initial.kept_points l.kept_points l.v

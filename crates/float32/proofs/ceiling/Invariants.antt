use Rattle.std.proofs.Common.{◌+◌}
use Rattle.float32.specs.Parts.{Tried}
use Rattle.float32.proofs.ceiling.Given as goal

abbrev pub invariant-loop-n : goal.invariant-loop-n
invariant-loop-n l = Tried (l.most + 1) l.x l.n

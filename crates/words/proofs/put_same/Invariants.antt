use lib.ListN.{replicate}
use Rattle.words.proofs.Turns.{Writing}
use Rattle.words.proofs.put_same.Given as goal

abbrev pub invariant-loop-i : goal.invariant-loop-i
invariant-loop-i l = Writing l.big (replicate l.n l.x) l.initial.file l.at l.file l.i

use Rattle.words.proofs.Turns.{Writing}
use Rattle.words.proofs.put_words.Given as goal

abbrev pub invariant-loop-i : goal.invariant-loop-i
invariant-loop-i l = Writing l.big l.words l.initial.file l.at l.file l.i

use Rattle.decimal.proofs.Counts.{Counting}
use Rattle.decimal.proofs.more_digits.Given as goal

abbrev pub invariant-loop : goal.invariant-loop
invariant-loop l = Counting l.file l.at l.x l.value l.next l.counter

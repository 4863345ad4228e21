use Prim.Native.Nat.{◌+◌, ◌*◌}
use Rattle.lists.proofs.Listing.{Filling}
use Rattle.words.specs.Words.{word_at}
use Rattle.words.proofs.get_words.Given as goal

abbrev pub invariant-loop-i : goal.invariant-loop-i
invariant-loop-i l = Filling (λ k. word_at l.big l.file (l.at + 4 * k)) l.initial.table l.table l.i

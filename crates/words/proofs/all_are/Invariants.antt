use mathlib.Core.Path.{◌≡◌}
use lib.ListN.{replicate}
use Rattle.lists.specs.Tables.{same}
use Rattle.words.specs.Words.{words_at}
use Rattle.words.proofs.Turns.{comparing}
use Rattle.words.proofs.all_are.Given as goal

abbrev pub invariant-loop-i : goal.invariant-loop-i
invariant-loop-i l = same (words_at l.big l.file l.at l.n) (replicate l.n l.x) ≡ comparing l.big l.file l.at l.n l.x l.all l.i

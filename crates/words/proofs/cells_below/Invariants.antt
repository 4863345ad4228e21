use mathlib.Core.Path.{◌≡◌}
use Prim.Native.Nat.{◌*◌}
use lib.ListN.{drop}
use Rattle.lists.specs.Tables.{all_below}
use Rattle.words.specs.Words.{cells_at}
use Rattle.words.proofs.cells_below.Given as goal

abbrev pub invariant-loop-i : goal.invariant-loop-i
invariant-loop-i l = all_below l.bound (cells_at l.big l.stride l.file l.at l.n) ≡ all_below l.bound (drop (4 * l.i) (cells_at l.big l.stride l.file l.at l.n))

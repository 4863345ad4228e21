use mathlib.Core.Path.{◌≡◌}
use mathlib.Core.Bool.{◌&&◌}
use lib.ListN.{drop}
use Rattle.lists.specs.Tables.{all_below}
use Rattle.lists.proofs.all_below.Given as goal

abbrev pub invariant-loop-x : goal.invariant-loop-x
invariant-loop-x l = all_below l.bound l.table ≡ l.below && all_below l.bound (drop l.x-index l.table)

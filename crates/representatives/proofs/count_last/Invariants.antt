use mathlib.Core.Path.{◌≡◌}
use Prim.Native.Nat.{◌≤◌}
use lib.ListN.{length}
use Rattle.lists.specs.Runs.{those}
use Rattle.representatives.specs.Parts.{is_last}
use Rattle.representatives.proofs.count_last.Given as goal

abbrev pub invariant-loop-i : goal.invariant-loop-i
invariant-loop-i l = (l.count ≤ l.i) × (l.count ≡ length (those (is_last l.crossing l.work l.n) l.i))

use mathlib.Core.Path.{◌≡◌}
use Prim.Native.Nat.{◌*◌, ◌/◌}
use lib.ListN.{length, take, drop}
use Rattle.components.proofs.Counting.{Counting, first_of}
use Rattle.components.proofs.number_cells.Given as goal

abbrev pub invariant-loop-i : goal.invariant-loop-i
invariant-loop-i l = (l.many ≡ length l.cells / 4) × (length l.work ≡ 2 * l.n) × (take l.n l.work ≡ take l.n l.initial.work) × Counting (first_of l.cells) (take l.n l.initial.work) (drop l.n l.work) l.initial.numbers l.numbers l.n (length l.cells / 4) l.count l.i

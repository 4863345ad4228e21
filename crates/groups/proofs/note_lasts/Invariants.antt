use Prim.Native.Nat.{◌/◌}
use lib.ListN.{length, drop}
use Rattle.groups.proofs.Noting.{Lasting}
use Rattle.groups.proofs.note_lasts.Given as goal

abbrev pub invariant-loop-i : goal.invariant-loop-i
invariant-loop-i l = Lasting l.crossing (drop l.n l.initial.work) l.work l.n (length l.cells / 4) l.i

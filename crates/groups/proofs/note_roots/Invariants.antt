use mathlib.Core.Path.{◌≡◌}
use lib.ListN.{length}
use Rattle.groups.proofs.Noting.{Noting}
use Rattle.groups.proofs.note_roots.Given as goal

abbrev pub invariant-loop-i : goal.invariant-loop-i
invariant-loop-i l = (length l.work ≡ length l.initial.work) × Noting l.cells l.crossing l.work l.n l.i

use lib.ListN.{drop}
use Rattle.lists.proofs.Listing.{Filling}
use Rattle.volume.specs.Volume.{verdict_at}
use Rattle.marked.specs.Parts.{marked_in}
use Rattle.marks.specs.Marks.{mark_by}
use Rattle.marks.proofs.store_marks.Given as goal

abbrev pub invariant-loop-i : goal.invariant-loop-i
invariant-loop-i l = Filling (λ k. mark_by (marked_in (drop l.n l.work) k) (verdict_at l.points l.cells k l.least)) l.initial.marks l.marks l.i

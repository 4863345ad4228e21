use lib.ListN.{get_or}
use Rattle.lists.proofs.Listing.{Filling}
use Rattle.refine.proofs.copy.Given as goal

abbrev pub invariant-loop-i : goal.invariant-loop-i
invariant-loop-i l = Filling (λ k. get_or l.from k 0) l.initial.to l.to l.i

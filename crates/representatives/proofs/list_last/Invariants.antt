use mathlib.Core.Path.{◌≡◌}
use lib.ListN.{length}
use Rattle.representatives.proofs.Listing.{Listing}
use Rattle.representatives.proofs.list_last.Given as goal

abbrev pub invariant-loop-i : goal.invariant-loop-i
invariant-loop-i l =
    (length l.numbers ≡ length l.initial.numbers) × (length l.centroids ≡ length l.initial.centroids)
    × Listing l.points l.cells l.crossing l.work l.initial.numbers l.initial.centroids l.numbers l.centroids l.n l.i l.k

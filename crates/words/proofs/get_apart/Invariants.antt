use Prim.Native.Nat.{◌*◌}
use Rattle.lists.proofs.Listing.{Filling}
use Rattle.words.proofs.Turns.{vertex_word}
use Rattle.words.proofs.get_apart.Given as goal

abbrev pub invariant-loop-i : goal.invariant-loop-i
invariant-loop-i l = Filling (vertex_word l.big l.stride l.file l.at) l.initial.cells l.cells (4 * l.i)

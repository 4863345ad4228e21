use mathlib.Core.List.{[]}
use lib.ListN.{length}
use Rattle.links.proofs.Vertexes.{Joining}
use Rattle.file_components.specs.Blocks.{cells_in}
use Rattle.file_components.proofs.link.Given as goal

abbrev pub invariant-loop-i : goal.invariant-loop-i
invariant-loop-i l = Joining (cells_in l.file l.s) [] l.parent (length l.initial.parent) l.i

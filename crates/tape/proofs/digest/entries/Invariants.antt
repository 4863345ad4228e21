use mathlib.Core.Path.{◌≡◌}
use mathlib.Core.List.{map}
use lib.ListN.{drop}
use Rattle.tape.specs.Digest.{digest_of}
use Rattle.tape.proofs.digest.entries.Given as goal

abbrev pub invariant-loop-x : goal.invariant-loop-x
invariant-loop-x g l = digest_of l.d (map g.T.Entry.itself (drop l.x-index l.table)) ≡ digest_of l.digest (map g.T.Entry.itself l.table)

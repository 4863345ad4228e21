-- What is read lies in the table.
use Rattle.std.proofs.Common.{◌≤◌, length}
use Rattle.tape.proofs.reading.read_full.Given as goal

abbrev pub invariant-loop : goal.invariant-loop
invariant-loop g l = l.done ≤ length l.table

use Prim.Native.Nat.{◌≤◌}
use Rattle.lookup_run.proofs.ask.Given as goal

abbrev pub invariant-loop : goal.invariant-loop
invariant-loop l = l.differences ≤ l.counter

use Prim.Native.Nat.{◌≤◌, ◌-◌}
use Rattle.replay.proofs.replay_section.Given as goal

abbrev pub invariant-loop : goal.invariant-loop
invariant-loop l = (l.differences ≤ l.counter) × (l.counter ≤ l.calls)

abbrev pub decreases-loop : goal.decreases-loop
decreases-loop l = l.calls - l.counter

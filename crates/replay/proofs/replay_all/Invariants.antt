use Prim.Native.Nat.{◌*◌, ◌≤◌, ◌-◌}
use Rattle.replay.proofs.replay_all.Given as goal

abbrev pub invariant-loop : goal.invariant-loop
invariant-loop g l = (l.calls ≤ 4294967296 * l.counter) × (l.differences ≤ 4294967296 * l.counter) × (l.counter ≤ l.sections)

abbrev pub decreases-loop : goal.decreases-loop
decreases-loop g l = l.sections - l.counter

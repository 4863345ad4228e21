use Rattle.std.proofs.Common.{◌*◌, ◌≤◌}
use Rattle.lookup_run.proofs.ask_section.Given as goal

abbrev pub invariant-loop : goal.invariant-loop
invariant-loop g l = (l.asked ≤ 4294967295 * l.counter) × (l.differences ≤ 4294967295 * l.counter)

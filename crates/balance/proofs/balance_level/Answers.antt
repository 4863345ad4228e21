use native.Mathlib.Omega.{arith}
use Rattle.octants.proofs.Levels.{rows_few}
use Rattle.balance.proofs.Rowing.{balanced_more}
use Rattle.balance.proofs.balance_level.Goals as goal

pub overflow_mul-q-end : goal.overflow_mul-q-end
overflow_mul-q-end c = omega (arith, rows_few c.requires.stacked.counts)

pub loop-q-preserved : goal.loop-q-preserved
loop-q-preserved c = balanced_more c.args.v _ c.loop-q-test.true c.loop-q.invariant c.balance_row.ensures

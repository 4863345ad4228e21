use native.Mathlib.Omega.{arith}
use Rattle.balance.proofs.Rowing.{blank, row_in, row_balanced}
use Rattle.balance.proofs.balance_row.Goals as goal

pub shell-requires : goal.shell-requires
shell-requires c = let p = c.requires in let r = row_in p in (blank _ (omega (arith, r.short)), p.0.stacked, r.y, r.z)

pub overflow_mul-q : goal.overflow_mul-q
overflow_mul-q c = omega (arith, row_in c.requires)

pub overflow_add-v : goal.overflow_add-v
overflow_add-v c = omega (arith, row_in c.requires)

pub split_row-requires : goal.split_row-requires
split_row-requires c = let r = row_in c.requires in (r.room, omega (arith, c.shell.auto.seen, r.short))

pub returns : goal.returns
returns c = row_balanced c.args.v c.args.q c.shell.ensures c.split_row.ensures

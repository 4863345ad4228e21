use mathlib.Core.Path.{◌∙◌}
use native.Mathlib.Omega.{arith}
use Rattle.balance.proofs.Rowing.{blank, row_in, row_gives}
use Rattle.balance.proofs.row_unsteady.Goals as goal

pub shell-requires : goal.shell-requires
shell-requires c = let p = c.requires in let r = row_in p in (blank _ (omega (arith, r.short)), p.0.stacked, r.y, r.z)

pub overflow_mul-q : goal.overflow_mul-q
overflow_mul-q c = omega (arith, row_in c.requires)

pub overflow_add-v : goal.overflow_add-v
overflow_add-v c = omega (arith, row_in c.requires)

pub row_gives-requires : goal.row_gives-requires
row_gives-requires c = let r = row_in c.requires in (r.room, omega (arith, c.shell.auto.seen, r.short))

pub returns : goal.returns
returns c = c.row_gives.ensures ∙ row_gives c.args.v c.args.q c.shell.ensures

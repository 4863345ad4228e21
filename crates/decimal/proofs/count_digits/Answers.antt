use native.Mathlib.Omega.{arith}
use Rattle.decimal.proofs.Decimals.{digits_room}
use Rattle.decimal.proofs.count_digits.Goals as goal

pub put_digits-requires : goal.put_digits-requires
put_digits-requires c = omega (arith, digits_room c.args.n)

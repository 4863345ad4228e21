use native.Mathlib.Omega.{arith}
use Rattle.decimal.proofs.Decimals.{digits_one, low_stored, high_stored, high_room}
use Rattle.decimal.proofs.+put_digits.Goals as goal

pub bounds-file-at : goal.bounds-file-at
bounds-file-at t c = omega (arith, c.requires, digits_one c.args.n)

pub returns-then-n-lt10 : goal.returns-then-n-lt10
returns-then-n-lt10 t c = low_stored _ _ _ c.if-n-lt10.true

pub put_digits-next-requires : goal.put_digits-next-requires
put_digits-next-requires t c = (omega arith, omega (arith, high_room c.args.file.now c.args.at c.args.n c.if-n-lt10.false (omega arith) c.requires))

pub bounds-file-next : goal.bounds-file-next
bounds-file-next t c = omega (arith, c.put_digits-next.ensures.count, c.put_digits-next.auto.file, high_room c.args.file.now c.args.at c.args.n c.if-n-lt10.false (omega arith) c.requires)

pub overflow_add-result-2 : goal.overflow_add-result-2
overflow_add-result-2 t c = omega (arith, c.put_digits-next.ensures.count, high_room c.args.file.now c.args.at c.args.n c.if-n-lt10.false (omega arith) c.requires)

pub returns : goal.returns
returns t c = high_stored _ _ _ c.if-n-lt10.false (omega arith) c.put_digits-next.ensures

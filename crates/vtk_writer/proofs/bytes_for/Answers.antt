use native.Mathlib.Omega.{arith}
use Prim.Native.Nat.{◌*◌}
use Rattle.decimal.proofs.Decimals.{digits_room}
use Rattle.vtk_writer.proofs.bytes_for.Goals as goal

pub overflow_add-result-3 : goal.overflow_add-result-3
overflow_add-result-3 c = omega (arith, c.count_digits-points.ensures, c.count_digits-cells.ensures, c.count_digits-numbers.ensures, digits_room c.args.p, digits_room c.args.n, digits_room (5 * c.args.n))

pub overflow_mul-result-3 : goal.overflow_mul-result-3
overflow_mul-result-3 c = omega (arith, c.count_digits-cells.ensures, digits_room c.args.n)

pub overflow_add-result-4 : goal.overflow_add-result-4
overflow_add-result-4 c = omega (arith, c.count_digits-points.ensures, c.count_digits-cells.ensures, c.count_digits-numbers.ensures, digits_room c.args.p, digits_room c.args.n, digits_room (5 * c.args.n))

pub overflow_add-result-5 : goal.overflow_add-result-5
overflow_add-result-5 c = omega (arith, c.count_digits-points.ensures, c.count_digits-cells.ensures, c.count_digits-numbers.ensures, digits_room c.args.p, digits_room c.args.n, digits_room (5 * c.args.n))

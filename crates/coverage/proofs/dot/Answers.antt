use native.Mathlib.Omega.{arith}
use lib.IntN.{ℤ, ◌+ℤ◌, ◌*ℤ◌}
use Rattle.coverage.specs.Parts.{Small, Held}
use Rattle.coverage.proofs.Held.{back, held, product_fits, product_held, plus_fits, plus_held}
use Rattle.coverage.proofs.dot.Goals as goal

term : {x y : ℤ} → Small 33554432 x → Small 4096 y → Held 137438953472 (x *ℤ y) (back (back x *ℤ back y))
term p q = product_held (held (omega arith) p) (held (omega arith) q) (omega arith)

sum : {x y p q : ℤ} → Small 33554432 x → Small 4096 p → Small 33554432 y → Small 4096 q
    → Held 274877906944 (x *ℤ p +ℤ y *ℤ q) (back (back (back x *ℤ back p) +ℤ back (back y *ℤ back q)))
sum a b c d = plus_held (term a b) (term c d) (omega arith)

pub overflow_mul-result : goal.overflow_mul-result
overflow_mul-result c = product_fits (held (omega arith) c.requires.0.x_short) (held (omega arith) c.requires.1.x_short) (omega arith)

pub overflow_mul-result-2 : goal.overflow_mul-result-2
overflow_mul-result-2 c = product_fits (held (omega arith) c.requires.0.y_short) (held (omega arith) c.requires.1.y_short) (omega arith)

pub overflow_add-result : goal.overflow_add-result
overflow_add-result c = let s = c.requires in plus_fits (term s.0.x_short s.1.x_short) (term s.0.y_short s.1.y_short) (omega arith)

pub overflow_mul-result-3 : goal.overflow_mul-result-3
overflow_mul-result-3 c = product_fits (held (omega arith) c.requires.0.z_short) (held (omega arith) c.requires.1.z_short) (omega arith)

pub overflow_add-result-2 : goal.overflow_add-result-2
overflow_add-result-2 c = let s = c.requires in plus_fits (sum s.0.x_short s.1.x_short s.0.y_short s.1.y_short) (term s.0.z_short s.1.z_short) (omega arith)

pub returns : goal.returns
returns c = let s = c.requires in plus_held (sum s.0.x_short s.1.x_short s.0.y_short s.1.y_short) (term s.0.z_short s.1.z_short) (omega arith)

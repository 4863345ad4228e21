use native.Mathlib.Omega.{arith}
use lib.IntN.{ℤ, ◌*ℤ◌}
use Rattle.coverage.specs.Parts.{Small, Held}
use Rattle.coverage.proofs.Held.{back, held, product_held, minus_fits, minus_held}
use Rattle.coverage.proofs.minor.Goals as goal

term : {x y : ℤ} → Small 4096 x → Small 4096 y → Held 16777216 (x *ℤ y) (back (back x *ℤ back y))
term p q = product_held (held (omega arith) p) (held (omega arith) q) (omega arith)

pub overflow_sub-result : goal.overflow_sub-result
overflow_sub-result c = minus_fits (term c.requires.0 c.requires.1) (term c.requires.2 c.requires.3) (omega arith)

pub returns : goal.returns
returns c = minus_held (term c.requires.0 c.requires.1) (term c.requires.2 c.requires.3) (omega arith)

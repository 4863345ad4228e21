use Rattle.std.proofs.Common.{◌∙◌}
use lib.Ieee.{of_bits}
use Rattle.float32.proofs.Floats.{above_zero, not_above_zero}
use Rattle.float32.proofs.is_size.Goals as goal

pub returns-then-x : goal.returns-then-x
unfolding of_bits
returns-then-x c = c.is_finite.ensures ∙ above_zero c.args.x c.if-x.true

pub returns-else-x : goal.returns-else-x
unfolding of_bits
returns-else-x c = not_above_zero c.args.x c.if-x.false

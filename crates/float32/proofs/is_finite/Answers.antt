use mathlib.Core.Path.{◌∙◌}
use Rattle.float32.proofs.Floats.{finite_is}
use Rattle.float32.proofs.is_finite.Goals as goal

pub returns : goal.returns
returns c = c.is_finite.ensures.value ∙ finite_is c.args.x

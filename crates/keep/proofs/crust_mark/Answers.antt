use mathlib.Core.Path.{◌∙◌}
use Rattle.keep.specs.Marked.{crust_mark}
use Rattle.keep.proofs.Marking.{as_bit}
use Rattle.keep.proofs.crust_mark.Goals as goal

pub returns : goal.returns
unfolding crust_mark
returns c = c.from.ensures ∙ as_bit _

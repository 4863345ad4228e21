use mathlib.Core.Path.{refl}
use Rattle.marked.specs.Used.{point_bits}
use Rattle.marked.proofs.Placing.{point_copied}
use Rattle.marked.proofs.store_point.Goals as goal

pub returns : goal.returns
unfolding point_bits
returns c = point_copied refl c.if-number-eq0.false c.store_all.ensures

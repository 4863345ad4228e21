use Rattle.volume.specs.Volume.{size_of}
use Rattle.volume.proofs.size.Goals as goal

pub returns-then-x : goal.returns-then-x
unfolding size_of
returns-then-x c = simp c.if-x.true

pub returns-else-x : goal.returns-else-x
unfolding size_of
returns-else-x c = simp c.if-x.false

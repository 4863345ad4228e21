use Rattle.volume.specs.Cell.{point_of}
use Rattle.volume.proofs.point_at.Goals as goal

pub returns : goal.returns
unfolding point_of
returns c = cc

use Rattle.volume.specs.Cell.{corners_of}
use Rattle.volume.proofs.corners_at.Goals as goal

pub returns : goal.returns
unfolding corners_of
returns c = cc

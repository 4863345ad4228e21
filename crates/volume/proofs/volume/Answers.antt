use Rattle.volume.specs.Volume.{volume_of}
use Rattle.volume.proofs.volume.Goals as goal

pub returns : goal.returns
unfolding volume_of
returns c = rw (c.dot.ensures, c.minus-3.ensures, c.cross.ensures, c.minus-2.ensures, c.minus.ensures)

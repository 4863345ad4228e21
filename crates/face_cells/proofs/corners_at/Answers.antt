use mathlib.Core.Path.{refl}
use Rattle.face_cells.specs.Parts.{corners_at}
use Rattle.face_cells.proofs.corners_at.Goals as goal

pub returns : goal.returns
unfolding corners_at
returns c = rw (c.find-centre.ensures, c.find-c0.ensures, c.find-c1.ensures, c.find-c2.ensures, c.find-c3.ensures, c.near-c4.ensures, c.near-c5.ensures, c.near-c6.ensures, c.near-c7.ensures) refl

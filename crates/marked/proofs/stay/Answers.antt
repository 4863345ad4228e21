use native.Mathlib.Omega.{arith}
use Rattle.marked.proofs.Weighing.{stayed}
use Rattle.marked.proofs.stay.Goals as goal

pub returns : goal.returns
returns c = stayed _ _ _ _ (omega (arith, c.requires.inside)) c.note_corners-points.auto.numbers c.note_corners-points.ensures

use Rattle.volume.specs.Volume.{verdict_of}
use Rattle.volume.proofs.verdict_on.Goals as goal

pub returns-then-size-least : goal.returns-then-size-least
unfolding verdict_of
returns-then-size-least c = simp (← c.volume-v.ensures, ← c.size.ensures, c.if-size-least.true)

pub returns-then-v : goal.returns-then-v
unfolding verdict_of
returns-then-v c = simp (← c.volume-v.ensures, ← c.size.ensures, c.if-size-least.false, c.if-v.true)

pub returns : goal.returns
unfolding verdict_of
returns c = simp (← c.volume-v.ensures, ← c.size.ensures, c.if-size-least.false, c.if-v.false)

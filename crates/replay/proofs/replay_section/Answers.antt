use native.Mathlib.Omega.{arith}
use Rattle.replay.proofs.replay_section.Goals as goal
use Rattle.replay.proofs.replay_section.Goals.{else-replay-word, then-replay-word}

pub loop-preserved : goal.loop-preserved
loop-preserved c = elim c.if-replay-word.branch [ then-replay-word w ↦ omega arith | else-replay-word w ↦ omega arith ]

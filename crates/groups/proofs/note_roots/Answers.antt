use mathlib.Core.Path.{◌∙◌}
use Rattle.groups.proofs.Noting.{noting_step}
use Rattle.groups.proofs.note_roots.Goals as goal

pub loop-i-preserved : goal.loop-i-preserved
loop-i-preserved c = (c.note_root.auto.work ∙ c.loop-i.invariant.0, noting_step _ _ _ _ _ _ c.loop-i.invariant.1 c.loop-i-test.true c.note_root.auto.work c.note_root.ensures)

use Rattle.sides.proofs.Levels.{level_none, level_some}
use Rattle.sides.proofs.level_of.Goals as goal

pub returns-then-m-eq0 : goal.returns-then-m-eq0
returns-then-m-eq0 c = level_none _ _ _ c.if-m-eq0.true

pub returns : goal.returns
returns c = level_some _ _ _ _ c.if-m-eq0.false c.level_at.ensures c.saturating_sub.ensures

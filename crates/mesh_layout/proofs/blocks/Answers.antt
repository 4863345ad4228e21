use mathlib.Core.Path.{sym}
use Rattle.mesh_layout.proofs.Sections.{blocks_are}
use Rattle.mesh_layout.proofs.blocks.Goals as goal

pub returns : goal.returns
returns c = sym (blocks_are _ c.end_of-second.ensures c.end_of-third.ensures c.count-p.ensures.0 c.count-n.ensures.0 c.count-m.ensures.0)

use Rattle.mesh_layout.proofs.Sections.{end_is}
use Rattle.mesh_layout.proofs.end_of.Goals as goal

pub returns : goal.returns
returns c = end_is _ _ _ c.requires.entries c.count.ensures.0

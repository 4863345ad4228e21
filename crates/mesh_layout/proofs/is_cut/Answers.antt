use Rattle.mesh_layout.proofs.Sections.{cut_count, cut_entries}
use Rattle.mesh_layout.proofs.is_cut.Goals as goal

pub returns-then-file-at-lt4 : goal.returns-then-file-at-lt4
returns-then-file-at-lt4 c = cut_count _ _ _ c.requires.0 c.requires.1 c.if-file-at-lt4.true

pub returns : goal.returns
returns c = cut_entries _ _ _ c.requires.0 c.requires.1 c.if-file-at-lt4.false c.whole.ensures c.count.ensures.0

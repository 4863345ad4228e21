use Rattle.mesh_layout.proofs.Sections.{section_stored}
use Rattle.mesh_layout.proofs.put_section.Goals as goal

pub returns : goal.returns
returns c = section_stored _ _ _ _ c.put_word.ensures c.put_words.ensures

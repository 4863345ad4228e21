use mathlib.Core.Path.{refl}
use Rattle.mesh_writer.proofs.Writing.{mesh_placed}
use Rattle.mesh_writer.proofs.put_mesh.Goals as goal

pub returns : goal.returns
returns c = mesh_placed _ _ _ _ _ _ c.requires refl refl c.put_section.ensures c.put_section-2.ensures c.put_word.ensures c.put_numbers.ensures.numbers c.put_numbers.ensures.zero

use mathlib.Core.Path.{refl}
use Rattle.lists.proofs.Running.{stored_both}
use Rattle.vtk_layout.proofs.put_lines.Goals as goal

pub returns : goal.returns
returns c = stored_both refl c.put_text-first.ensures (stored_both refl c.put_digits-second.ensures c.put_text.ensures)

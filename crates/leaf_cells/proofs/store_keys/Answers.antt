use mathlib.Core.Path.{sym, ap, ◌∙◌}
use lib.Seq.{sets}
use Rattle.leaf_cells.proofs.Keys.{keys_are}
use Rattle.leaf_cells.proofs.store_keys.Goals as goal

pub returns : goal.returns
returns c = c.store_nine.ensures ∙ ap (sets _ _) (sym (keys_are _ _ _ c.low_of-k.ensures.0 c.half_of-h.ensures.0))

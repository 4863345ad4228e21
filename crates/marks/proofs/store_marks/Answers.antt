use mathlib.Core.Path.{ap, ◌∙◌}
use native.Mathlib.Omega.{arith}
use Rattle.lists.specs.Tables.{list_of}
use Rattle.lists.proofs.Listing.{filling_done}
use Rattle.marks.proofs.store_marks.Goals as goal

pub returns : goal.returns
returns c = filling_done _ c.loop-i.invariant (omega (arith, c.loop-i.invariant.long)) ∙ ap (list_of _) c.requires.room

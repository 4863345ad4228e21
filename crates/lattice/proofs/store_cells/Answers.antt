use mathlib.Core.Path.{sym, ap, ◌∙◌}
use lib.Seq.{sets}
use Rattle.lists.proofs.Running.{loop_next, loop_room, loop_done}
use Rattle.space.specs.Space.{pos}
use Rattle.lattice.proofs.Tables.{all_cells_lem}
use Rattle.lattice.proofs.store_cells.Goals as goal

pub layer_at-here-requires : goal.layer_at-here-requires
layer_at-here-requires c = (record { dims = c.requires.0; k_in = c.loop-k-test.true }, loop_room _ _ _ _ c.loop-k.invariant c.loop-k-test.true c.requires.1)

pub loop-k-preserved : goal.loop-k-preserved
loop-k-preserved c = loop_next _ _ _ _ c.loop-k.invariant c.loop-k-test.true c.layer_at-here.ensures

pub returns : goal.returns
returns c = let a = c.args in (loop_done _ _ _ _ c.loop-k.invariant c.loop-k-test.false).kept ∙ ap (sets a.cells.now 0) (sym (all_cells_lem (pos a.nx a.ny a.nz)))

use mathlib.Core.Path.{refl, sym, ◌∙◌}
use Rattle.links.proofs.Linking.{joined_already}
use Rattle.links.proofs.Vertexes.{joined_cell}
use Rattle.file_components.proofs.Comparing.{cell_read, cell_asks}
use Rattle.file_components.proofs.join_cell.Goals as goal

pub is_joined-requires : goal.is_joined-requires
is_joined-requires c = (cell_asks _ c.args.s c.requires.3 c.requires.1 c.requires.2 (cell_read _ c.args.s c.requires.3 c.quad_at.ensures)).points

pub returns-then-is_joined : goal.returns-then-is_joined
returns-then-is_joined c = joined_cell _ _ _ _ _ refl (cell_read _ c.args.s c.requires.3 c.quad_at.ensures) (joined_already (cell_asks _ c.args.s c.requires.3 c.requires.1 c.requires.2 (cell_read _ c.args.s c.requires.3 c.quad_at.ensures)) (sym c.is_joined.ensures ∙ c.if-is_joined.true))

pub join_four-requires : goal.join_four-requires
join_four-requires c = cell_asks _ c.args.s c.requires.3 c.requires.1 c.requires.2 (cell_read _ c.args.s c.requires.3 c.quad_at.ensures)

pub returns : goal.returns
returns c = joined_cell _ _ _ _ _ refl (cell_read _ c.args.s c.requires.3 c.quad_at.ensures) c.join_four.ensures

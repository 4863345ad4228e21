use mathlib.Core.Path.{sym, ◌∙◌}
use borrow.Author.Tests.{eqb-true}
use Rattle.lists.proofs.Tests.{passed}
use Rattle.links.proofs.Linking.{joined_already}
use Rattle.links.proofs.Vertexes.{four_asked, joined_cell}
use Rattle.links.proofs.join_cell.Goals as goal

pub is_joined-requires : goal.is_joined-requires
is_joined-requires c = (four_asked c.requires c.cell_at-cell.ensures).points

pub returns-then-is_joined : goal.returns-then-is_joined
returns-then-is_joined c =
    joined_cell _ _ _ _ _ (eqb-true _ _ (passed c.is_free.ensures c.if-not-is_free.false)) c.cell_at-cell.ensures (joined_already (four_asked c.requires c.cell_at-cell.ensures) (sym c.is_joined.ensures ∙ c.if-is_joined.true))

pub join_four-requires : goal.join_four-requires
join_four-requires c = four_asked c.requires c.cell_at-cell.ensures

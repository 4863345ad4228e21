use mathlib.Core.Path.{refl, ◌∙◌, ap}
use Rattle.marked.specs.Parts.{ordered}
use Rattle.marked.proofs.Placing.{cell_gone, cell_placed, order_named}
use Rattle.marked.proofs.store_cell.Goals as goal

pub returns-then-code-eq0 : goal.returns-then-code-eq0
returns-then-code-eq0 c = cell_gone _ _ _ _ _ _ c.if-code-eq0.true

pub place_of-a-requires : goal.place_of-a-requires
place_of-a-requires c = (order_named _ (c.order-cell.ensures ∙ ap (ordered _) c.cell_at.ensures) (c.requires.named c.if-code-eq0.false)).a_is

pub place_of-b-requires : goal.place_of-b-requires
place_of-b-requires c = (order_named _ (c.order-cell.ensures ∙ ap (ordered _) c.cell_at.ensures) (c.requires.named c.if-code-eq0.false)).b_is

pub place_of-c-requires : goal.place_of-c-requires
place_of-c-requires c = (order_named _ (c.order-cell.ensures ∙ ap (ordered _) c.cell_at.ensures) (c.requires.named c.if-code-eq0.false)).c_is

pub place_of-d-requires : goal.place_of-d-requires
place_of-d-requires c = (order_named _ (c.order-cell.ensures ∙ ap (ordered _) c.cell_at.ensures) (c.requires.named c.if-code-eq0.false)).d_is

pub returns : goal.returns
returns c =
    cell_placed _ _ _ _ _ _ c.if-code-eq0.false (c.order-cell.ensures ∙ ap (ordered _) c.cell_at.ensures)
    (rw (c.store_all.ensures, c.place_of-a.ensures, c.place_of-b.ensures, c.place_of-c.ensures, c.place_of-d.ensures) refl)

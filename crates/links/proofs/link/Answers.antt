use Rattle.links.proofs.Vertexes.{vertices}
use Rattle.links.proofs.link.Goals as goal

pub join_cells-requires : goal.join_cells-requires
join_cells-requires c = (vertices c.requires c.start.auto.parent, c.start.ensures)

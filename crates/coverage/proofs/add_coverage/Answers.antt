use mathlib.Core.Path.{sym}
use Rattle.coverage.proofs.WaysOut.{refused, tables_taken, taken}
use Rattle.coverage.proofs.add_coverage.Goals as goal

pub returns-in-Err : goal.returns-in-Err
returns-in-Err c = refused _ _ _ _ c.in-Err.ensures

pub add_cells-requires : goal.add_cells-requires
add_cells-requires c = tables_taken _ _ _ (sym c.in_default.ensures)

pub returns : goal.returns
returns c = taken _ _ _ _ (sym c.in_default.ensures) c.add_cells.ensures

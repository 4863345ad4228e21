use Rattle.coverage.proofs.WaysOut.{over_counts, over_sums, all_fit}
use Rattle.coverage.proofs.add_cells.Goals as goal

pub returns-in_default : goal.returns-in_default
returns-in_default c = over_counts _ _ _ _ c.requires.marks c.in_default.ensures

pub returns-in-Some-sum_cells : goal.returns-in-Some-sum_cells
returns-in-Some-sum_cells c = all_fit _ _ _ _ c.requires.marks c.in-Some.ensures c.in-Some-sum_cells.ensures

pub returns-in-None : goal.returns-in-None
returns-in-None c = over_sums _ _ _ _ c.requires.marks c.in-Some.ensures c.in-None.ensures

use Rattle.leaves.proofs.Walking.{all_listed}
use Rattle.leaves.proofs.list_leaves.Goals as goal

pub returns : goal.returns
returns c = all_listed _ _ _ _ _ c.walk_roots.ensures c.requires.1

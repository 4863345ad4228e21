use Rattle.std.proofs.Common.{◌+◌, ◌*◌, ◌-◌}
use Rattle.leaves.proofs.+walk_children_walk_octant.Given as goal

-- An octant of level m has measure 10 m, and the walk over the children that are left 10 (m - 1) + 1 + left.
abbrev pub decreases-walk_octant : goal.decreases-walk_octant
decreases-walk_octant l = 10 * l.o.level

abbrev pub decreases-walk_children : goal.decreases-walk_children
decreases-walk_children l = 10 * (l.o.level - 1) + 1 + l.left

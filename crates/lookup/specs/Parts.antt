-- covering_leaf as the code goes, with its two kinds of none told apart; proofs/Theorems ties it to the Rust's. Definitions only.
use Rattle.std.specs.Prelude.{cond, ℕ, zero, suc, ◌+◌, ◌-◌, ◌/◌, ◌^◌}
use Rattle.space.specs.Space.{Pos}
use Rattle.octants.specs.Oct.{Tree, counts, within}
use Rattle.octree.specs.Parts.{place_of}
use Rattle.octree.specs.declared.Octant.{Octant}
use Rattle.octree_cells.specs.Cells.{Cover, none, leaf}
use Rattle.lookup.specs.declared.Covered.{Covered}
use Rattle.lookup.specs.declared.Covered.TheVariants.{Leaf, Split, Outside}

-- the ancestor k levels up
abbrev pub ancestor_of : ℕ → Octant → Octant
ancestor_of k o = record { level = o.level + k; x = o.x / 2 ^ k; y = o.y / 2 ^ k; z = o.z / 2 ^ k }

-- the first ancestor that is not split, from k levels above the octant down to it
unfoldable pub descent_of : Tree → Octant → ℕ → Covered
descent_of t o zero = cond (t (o.level + 0) (place_of (ancestor_of 0 o))) Split (Leaf (ancestor_of 0 o))
descent_of t o (suc k) = cond (t (o.level + suc k) (place_of (ancestor_of (suc k) o))) (descent_of t o k) (Leaf (ancestor_of (suc k) o))

unfoldable pub covered_of : ℕ → Pos → Tree → Octant → Covered
covered_of l d t o = cond (within (counts l d o.level) (place_of o)) (descent_of t o (l - o.level)) Outside

-- as the Rust's Option
abbrev pub cover_of : Covered → Cover
cover_of (Leaf o) = leaf o.level (place_of o)
cover_of Split = none
cover_of Outside = none

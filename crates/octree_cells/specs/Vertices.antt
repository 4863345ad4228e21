-- The vertices that cells name, and the points of a leaf.
use Rattle.std.specs.Prelude.{Bool, false, ◌||◌, List, [], ◌∷◌, ℕ}
use Rattle.space.specs.Space.{Pos}
use Rattle.octree_cells.specs.Cells.{Cell, corner, centre, box_down, two}

-- a vertex of one of the cells passes; a point of the list passes
unfoldable pub names : (Pos → Bool) → List Cell → Bool
names q [] = false
names q (c ∷ cs) = (q c.c0 || q c.c1 || q c.c2 || q c.c3) || names q cs

unfoldable pub marks : (Pos → Bool) → List Pos → Bool
marks q [] = false
marks q (p ∷ ps) = q p || marks q ps

-- nine points of a leaf
abbrev pub leaf_points : ℕ → Pos → List Pos
leaf_points m x = centre m x ∷ box_down two (λ o. corner m x o ∷ [])

-- Compaction: the points that a list of cells uses, in the order of first use, and the cells by the places of their points there.
-- F is the list of the cells' vertices, four to a cell.
use Rattle.std.specs.Prelude.{List, [], ◌∷◌, map, ℕ, ◌+◌, ◌*◌, get_or}
use Rattle.lists.specs.Appearance.{place, noted}
use Rattle.lists.specs.Runs.{spread}

-- the points s used so far, and then those of F where they are first used
unfoldable pub first_uses : List ℕ → List ℕ → List ℕ
first_uses s [] = s
first_uses s (v ∷ F) = first_uses (noted v s) F

unfoldable pub used_of : List ℕ → List ℕ
used_of F = first_uses [] F

-- the cells, each vertex by its place among the points used
unfoldable pub renumbered : List ℕ → List ℕ
renumbered F = map (λ v. place v (used_of F)) F

-- the bits of the point v, as they are
unfoldable pub point_bits : List ℕ → ℕ → List ℕ
point_bits P v = get_or P (3 * v) 0 ∷ get_or P (3 * v + 1) 0 ∷ get_or P (3 * v + 2) 0 ∷ []

-- the bits of the points s, in their order
unfoldable pub points_at : List ℕ → List ℕ → List ℕ
points_at P s = spread (point_bits P) s

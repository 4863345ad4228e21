-- The highest cell of each group, and its centroid.
use Rattle.std.specs.Prelude.{Bool, ◌&&◌, List, [], ◌∷◌, ℕ, eqb, get_or}
use Rattle.std.specs.Float.{binary32}
use Rattle.std.specs.Float.Ieee.{to_bits}
use Rattle.lists.specs.Runs.{those, spread}
use Rattle.mesh.specs.Mesh.{cell_of}
use Rattle.links.specs.Labels.{label_at}
use Rattle.volume.specs.Cell.{corners_of}
use Rattle.volume.specs.Volume.{centroid_of}

-- the cell i of n is not crossed, and is the highest of its group
unfoldable pub is_highest : List ℕ → List ℕ → ℕ → ℕ → Bool
is_highest C X n i = eqb (get_or X i 0) 0 && eqb (label_at C X n i) i

-- the representatives of n cells, ascending
unfoldable pub representatives_of : List ℕ → List ℕ → ℕ → List ℕ
representatives_of C X n = those (is_highest C X n) n

-- the patterns of the centroid of the cell i
unfoldable pub centroid_bits : List ℕ → List ℕ → ℕ → List ℕ
centroid_bits P C i =
    let z = centroid_of (corners_of P (cell_of C i)) in
    to_bits binary32 z.x ∷ to_bits binary32 z.y ∷ to_bits binary32 z.z ∷ []

-- those of the representatives, in their order
unfoldable pub centroids_of : List ℕ → List ℕ → List ℕ → ℕ → List ℕ
centroids_of P C X n = spread (centroid_bits P C) (representatives_of C X n)

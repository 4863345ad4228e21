-- The faces of cells, who names them, and which cells share one. A table of cells has four points a cell.
use Rattle.std.specs.Prelude.{◌≡◌, Bool, true, cond, ◌&&◌, not, List, [], ◌∷◌, ℕ, ◌+◌, ◌*◌, ◌/◌, ◌%◌, ◌≤◌, ◌<◌, min, max, ltb, get_or}
use Rattle.lists.specs.Tables.{among}
use Rattle.mesh.specs.Mesh.{cells_of}
use Rattle.sorting.specs.Entries.{many}
use Rattle.passes.specs.Passes.{up_to}

-- ---- cells

-- point i of cell q
abbrev pub point_at : List ℕ → ℕ → ℕ → ℕ
point_at C q i = get_or C (4 * q + i) 0

-- the four points of cell q
abbrev pub cell_at : List ℕ → ℕ → List ℕ
cell_at C q = point_at C q 0 ∷ point_at C q 1 ∷ point_at C q 2 ∷ point_at C q 3 ∷ []

-- no number stands twice
unfoldable pub differ : List ℕ → Bool
differ [] = true
differ (x ∷ l) = not (among x l) && differ l

-- each cell names four different points
abbrev pub Proper : List ℕ → Type 0
Proper C = (q : ℕ) → q < cells_of C → differ (cell_at C q) ≡ true

-- ---- faces

-- where point i of a face stands in the cell, if its vertex k is left out
abbrev pub slot : ℕ → ℕ → ℕ
slot k i = cond (ltb i k) i (i + 1)

-- the lowest, the middle and the highest of three
unfoldable pub lowest : ℕ → ℕ → ℕ → ℕ
lowest x y z = min x (min y z)

unfoldable pub middle : ℕ → ℕ → ℕ → ℕ
middle x y z = max (min x y) (min (max x y) z)

unfoldable pub highest : ℕ → ℕ → ℕ → ℕ
highest x y z = max x (max y z)

abbrev pub ascending : ℕ → ℕ → ℕ → List ℕ
ascending x y z = lowest x y z ∷ middle x y z ∷ highest x y z ∷ []

-- An owner is 4 * cell + the vertex left out. Point i of its face, as the cell names them
unfoldable pub side : List ℕ → ℕ → ℕ → ℕ
side C o i = point_at C (o / 4) (slot (o % 4) i)

-- the three points of its face, ascending
abbrev pub face_of : List ℕ → ℕ → List ℕ
face_of C o = ascending (side C o 0) (side C o 1) (side C o 2)

-- ---- who names a face

-- the points of a face are among those of a cell
unfoldable pub names : List ℕ → List ℕ → Bool
names cell [] = true
names cell (p ∷ face) = among p cell && names cell face

-- how many cells name the face of owner o
unfoldable pub crowd : List ℕ → ℕ → ℕ
crowd C o = many (λ q. names (cell_at C q) (face_of C o)) (up_to (cells_of C))

-- ---- cells that share a face

-- how many points of one cell are points of another
unfoldable pub common : List ℕ → List ℕ → ℕ
common a b = many (λ p. among p b) a

-- two cells share a whole face: three points in common
abbrev pub Shares : List ℕ → ℕ → ℕ → Type 0
Shares C q r = 3 ≤ common (cell_at C q) (cell_at C r)

-- Cells joined through whole faces, and their numbers: rules R4.1 to R4.3. C is the table of cells, four points a cell.
use Rattle.std.specs.Prelude.{Bool, cond, ◌&&◌, List, ℕ, zero, suc, ◌<◌, eqb, leb, length}
use Rattle.lists.specs.Tests.{any}
use Rattle.lists.specs.Appearance.{seen_of, numbers_of}
use Rattle.mesh.specs.Mesh.{cells_of}
use Rattle.links.specs.Walks.{Walk}
use Rattle.face_theory.specs.Faces.{cell_at, common, Shares}

-- the cells i and j have three points in common
unfoldable pub meets : List ℕ → ℕ → ℕ → Bool
meets C i j = leb 3 (common (cell_at C i) (cell_at C j))

-- the label of the cell i, joined through the first n cells: at first each has its own; the cell n gives its number to each group of
-- which it meets a cell
unfoldable pub piece_at : List ℕ → ℕ → ℕ → ℕ
piece_at C zero i = i
piece_at C (suc n) i = cond (any n (λ j. eqb (piece_at C n j) (piece_at C n i) && meets C j n)) n (piece_at C n i)

-- the numbers of n cells by first appearance
unfoldable pub face_numbers : List ℕ → ℕ → List ℕ
face_numbers C n = numbers_of (piece_at C n) n

-- how many numbers there are
unfoldable pub face_count : List ℕ → ℕ → ℕ
face_count C n = length (seen_of (piece_at C n) n)

-- ---- what the numbers mean

-- two cells share a whole face: three points in common
pub record ShareFace (C : List ℕ) (q r : ℕ) : Type 0 where
  pub q_in : q < cells_of C
  pub r_in : r < cells_of C
  pub shares : Shares C q r

-- there is a chain of cells from q to r, each sharing a face with the next
abbrev pub JoinedByFaces : List ℕ → ℕ → ℕ → Type 0
JoinedByFaces C = Walk (ShareFace C)

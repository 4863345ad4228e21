-- What the parts of the code ask and give. In the work table w there are n entries for the points in front, and behind them one for each
-- cell: first whether it is marked, and then whether it stays: 0 no, 1 as it is, 2 exchanged.
use Rattle.std.specs.Prelude.{◌≡◌, ◌≢◌, Bool, cond, not, List, [], map, ℕ, ◌+◌, ◌-◌, ◌*◌, ◌≤◌, ◌<◌, eqb, Float, length, get_or, set, take, drop, Result}
use Rattle.std.proofs.lemmas.List.Edits.{sets}
use Rattle.lists.specs.Tests.{bit}
use Rattle.lists.specs.Appearance.{place, noted, Table}
use Rattle.lists.specs.Runs.{run, Stored}
use Rattle.mesh.specs.Mesh.{cells_of, most, cell_of, Each, Points, in_order, exchanged}
use Rattle.mesh.specs.declared.Cell.{Cell}
use Rattle.volume.specs.Volume.{verdict_at}
use Rattle.volume.specs.declared.Verdict.{Verdict}
use Rattle.volume.specs.declared.Verdict.TheVariants as verdict
use Rattle.groups.specs.Parts.{Sized, Laid}
use Rattle.marked.specs.Weighed.{shape_at, drops_at, final_cells, dropped_count}
use Rattle.marked.specs.Used.{first_uses, used_of, point_bits, points_at}
use Rattle.marked.specs.Kept.{kept_of, points_after, cells_after}
use Rattle.marked.specs.declared.Counts.{Counts}
use Rattle.marked.specs.declared.Kept.{Kept}
use Rattle.marked.specs.declared.KeepError.{KeepError}

-- ---- points noted by first use

-- a point is noted in the table of numbers
pub record NoteAsked (T : List ℕ) (v count : ℕ) : Type 0 where
  pub inside : v < length T
  pub few : count ≤ 4 * most

pub record NotedIn (T T' : List ℕ) (v count r : ℕ) : Type 0 where
  pub numbered : (s : List ℕ) → Table T s → count ≡ length s → Table T' (noted v s) × (r ≡ length (noted v s))
  pub few : r ≤ count + 1

-- the points of a cell
pub record CornersAsked (T : List ℕ) (k : Cell) (count : ℕ) : Type 0 where
  pub points : Points (length T) k
  pub few : count + 4 ≤ 4 * most

pub record CornersNoted (T T' : List ℕ) (k : Cell) (count r : ℕ) : Type 0 where
  pub numbered : (s : List ℕ) → Table T s → count ≡ length s → Table T' (first_uses s (in_order k)) × (r ≡ length (first_uses s (in_order k)))
  pub few : r ≤ count + 4

-- ---- cells weighed

-- a table with an entry for each cell marks those whose entry is not 0
unfoldable pub marked_in : List ℕ → ℕ → Bool
marked_in M i = not (eqb (get_or M i 0) 0)

-- the entry that a verdict leaves
unfoldable pub code_of : Verdict → ℕ
code_of (verdict.Kept v) = 1
code_of (verdict.Exchanged v) = 2
code_of (verdict.Dropped v) = 0

unfoldable pub code_at : Bool → Float → List ℕ → List ℕ → ℕ → ℕ
code_at marked least P C i = cond marked (code_of (verdict_at P C i least)) 0

-- what is counted among the first i cells
pub record Few (r : Counts) (i : ℕ) : Type 0 where
  pub points : r.points ≤ 4 * i
  pub cells : r.cells ≤ i
  pub dropped : r.dropped ≤ i

-- one cell is weighed
pub record WeighAsked (P C w : List ℕ) (n i : ℕ) (b : Counts) : Type 0 where
  pub laid : Laid P C w n
  pub inside : i < cells_of C
  pub few : Few b i

-- one stays, with these corners
pub record StayAsked (w : List ℕ) (n i : ℕ) (k : Cell) (b : Counts) : Type 0 where
  pub inside : n + i < length w
  pub corners : CornersAsked (take n w) k b.points
  pub few : b.cells ≤ i
  pub small : i ≤ most

-- its entry is then code, the mesh has shape more, and so many more are dropped
pub record WeighedAs (w w' : List ℕ) (n i : ℕ) (b r : Counts) (code : ℕ) (shape : List ℕ) (lost : ℕ) : Type 0 where
  pub entry : drop n w' ≡ set (drop n w) i code
  pub numbers : (s : List ℕ) → Table (take n w) s → b.points ≡ length s
      → Table (take n w') (first_uses s shape) × (r.points ≡ length (first_uses s shape))
  pub cells : 4 * r.cells ≡ 4 * b.cells + length shape
  pub dropped : r.dropped ≡ b.dropped + lost
  pub points_few : r.points ≤ b.points + 4
  pub cells_few : r.cells ≤ b.cells + 1
  pub dropped_few : r.dropped ≤ b.dropped + 1

abbrev pub WeighedAt : List ℕ → List ℕ → List ℕ → List ℕ → ℕ → ℕ → Float → Counts → Counts → Type 0
WeighedAt P C w w' n i least b r =
    let marked = marked_in (drop n w) i in
    WeighedAs w w' n i b r (code_at marked least P C i) (shape_at marked least P C i) (bit (drops_at marked least P C i))

-- v stands in s
abbrev pub In : List ℕ → ℕ → Type 0
In s v = place v s < length s

-- all are weighed: M are the marks, and w the work after
pub record Tallied (P C M w : List ℕ) (n : ℕ) (least : Float) (r : Counts) : Type 0 where
  pub sized : Sized C w n
  pub codes : (j : ℕ) → j < cells_of C → get_or (drop n w) j 0 ≡ code_at (marked_in M j) least P C j
  pub table : Table (take n w) (used_of (final_cells (marked_in M) least P C (cells_of C)))
  pub named : (j : ℕ) → j < cells_of C → code_at (marked_in M j) least P C j ≢ 0
      → Each (In (used_of (final_cells (marked_in M) least P C (cells_of C)))) (cell_of C j)
  pub points : r.points ≡ length (used_of (final_cells (marked_in M) least P C (cells_of C)))
  pub cells : 4 * r.cells ≡ length (final_cells (marked_in M) least P C (cells_of C))
  pub dropped : r.dropped ≡ dropped_count (marked_in M) least P C (cells_of C)

-- ---- cells stored

-- a cell by what stands in its entry
unfoldable pub ordered : ℕ → Cell → Cell
ordered code k = cond (eqb code 1) k (exchanged k)

unfoldable pub shape_of : ℕ → Cell → List ℕ
shape_of code k = cond (eqb code 0) [] (in_order (ordered code k))

-- and by the places of its points
unfoldable pub placed_cell : List ℕ → List ℕ → ℕ → ℕ → List ℕ
placed_cell C w n i = map (λ v. get_or w v 0 - 1) (shape_of (get_or w (n + i) 0) (cell_of C i))

unfoldable pub placed_cells : List ℕ → List ℕ → ℕ → List ℕ
placed_cells C w n = run (cells_of C) (placed_cell C w n) 0

-- one cell is stored
pub record CellAsked (C o w : List ℕ) (n i k : ℕ) : Type 0 where
  pub entry : n + i < length w
  pub inside : i < cells_of C
  pub few : k ≤ i
  pub small : i ≤ most
  pub named : get_or w (n + i) 0 ≢ 0 → Each (λ v. 0 < get_or w v 0) (cell_of C i)
  pub room : get_or w (n + i) 0 ≢ 0 → 4 * k + 4 ≤ length o

abbrev pub CellStored : List ℕ → List ℕ → List ℕ → List ℕ → ℕ → ℕ → ℕ → ℕ → Type 0
CellStored C o o' w n i k r = Stored o (4 * k) (placed_cell C w n i) (4 * r) o'

pub record CellsAsked (C o w : List ℕ) (n : ℕ) : Type 0 where
  pub sized : Sized C w n
  pub named : (i : ℕ) → i < cells_of C → get_or w (n + i) 0 ≢ 0 → Each (λ v. 0 < get_or w v 0) (cell_of C i)
  pub fits : length o ≡ length (placed_cells C w n)

-- ---- points stored

-- one point is stored
pub record PointAsked (P o T : List ℕ) (v : ℕ) : Type 0 where
  pub inside : v < length T
  pub point : 3 * v + 2 < length P
  pub room : get_or T v 0 ≢ 0 → 3 * get_or T v 0 ≤ length o

pub record PointStored (P o o' T : List ℕ) (v : ℕ) : Type 0 where
  pub unused : get_or T v 0 ≡ 0 → o' ≡ o
  pub stored : get_or T v 0 ≢ 0 → o' ≡ sets o (3 * (get_or T v 0 - 1)) (point_bits P v)

pub record PointsAsked (P o T : List ℕ) : Type 0 where
  pub points : 3 * length T ≤ length P
  pub room : (v : ℕ) → get_or T v 0 ≢ 0 → 3 * get_or T v 0 ≤ length o

-- each entry stands first at its own place
pub record Distinct (s : List ℕ) : Type 0 where
  pub own : (k : ℕ) → k < length s → place (get_or s k 0) s ≡ k

-- where T has the places in s, and there is room for just so many, these are the points of s
pub record PointsStored (P o o' T : List ℕ) : Type 0 where
  pub all : (s : List ℕ) → Table T s → Distinct s → length o ≡ 3 * length s → o' ≡ points_at P s

-- ---- the mesh kept

-- of the cells F that stay, where so many were dropped
pub record KeptAs (P F : List ℕ) (dropped : ℕ) (p q : List ℕ) (r : Result Kept KeepError) (p' q' : List ℕ) : Type 0 where
  pub answer : r ≡ kept_of F dropped p q
  pub points : p' ≡ points_after (kept_of F dropped p q) P F p
  pub cells : q' ≡ cells_after (kept_of F dropped p q) F q

-- of the cells that a test marks
abbrev pub KeptMarked : List ℕ → List ℕ → (ℕ → Bool) → Float → List ℕ → List ℕ → Result Kept KeepError → List ℕ → List ℕ → Type 0
KeptMarked P C mark least p q r p' q' =
    KeptAs P (final_cells mark least P C (cells_of C)) (dropped_count mark least P C (cells_of C)) p q r p' q'

-- What the parts of the code ask and give. T is the table of triples, C that of cells.
use Rattle.std.specs.Prelude.{◌≡◌, Bool, cond, ◌&&◌, List, ℕ, ◌+◌, ◌*◌, ◌^◌, ◌≤◌, ◌<◌, ltb, ℤ, nat_abs, length, get_or, Option, Some, None, Result}
use Rattle.space.specs.Space.{ax, ay, az}
use Rattle.sorting.specs.Numbers.{cnt}
use Rattle.mesh.specs.Mesh.{cells_of}
use Rattle.tiling.specs.Volume as volume
use Rattle.coverage.specs.Step.{grown, total_rows, answer_of}
use Rattle.coverage.specs.declared.Vector.{Vector}
use Rattle.coverage.specs.declared.Totals.{Totals}
use Rattle.coverage.specs.declared.Uncovered.{Uncovered}
use Rattle.coverage.specs.declared.Sums.{Sums}

-- at most m, whatever the sign
pub record Small (m : ℕ) (x : ℤ) : Type 0 where
  pub small : nat_abs x ≤ m

-- r is x, and at most m
pub record Held (m : ℕ) (x r : ℤ) : Type 0 where
  pub same : r ≡ x
  pub size : nat_abs x ≤ m

-- a vector by its axes
abbrev pub as_vector : Vector → volume.Vector
as_vector u ax = u.x
as_vector u ay = u.y
as_vector u az = u.z

-- along each axis at most m
pub record Short (m : ℕ) (u : Vector) : Type 0 where
  pub x_short : Small m u.x
  pub y_short : Small m u.y
  pub z_short : Small m u.z

-- r is the vector u, along each axis at most m
pub record VectorHeld (m : ℕ) (u : volume.Vector) (r : Vector) : Type 0 where
  pub x_held : Held m (u ax) r.x
  pub y_held : Held m (u ay) r.y
  pub z_held : Held m (u az) r.z

-- every coordinate is at most 4,096, and the vertices p and q are there
pub record Coordinates (T : List ℕ) : Type 0 where
  pub low : (k : ℕ) → k < length T → get_or T k 0 ≤ 4096

pub record EdgeAsked (T : List ℕ) (p q : ℕ) : Type 0 where
  pub coordinates : Coordinates T
  pub from_there : 3 * p + 2 < length T
  pub to_there : 3 * q + 2 < length T

-- the cell i is there, and so are the vertices that cells name
pub record CellAsked (T C : List ℕ) (i : ℕ) : Type 0 where
  pub coordinates : Coordinates T
  pub there : i < cells_of C
  pub names : (k : ℕ) → k < length C → 3 * get_or C k 0 + 2 < length T

-- tables that are not refused
pub record TablesTaken (T C M : List ℕ) : Type 0 where
  pub coordinates : Coordinates T
  pub names : (k : ℕ) → k < length C → 3 * get_or C k 0 + 2 < length T
  pub marks : length M ≡ cells_of C

-- a number fits 64 bits
abbrev pub fits64 : ℕ → Bool
fits64 n = ltb n (2 ^ 64)

-- two sums, where both do
unfoldable pub sums_of : ℕ → ℕ → Option Sums
sums_of part all = cond (fits64 part && fits64 all) (Some (record { part = part; all = all })) None

-- the totals with the cells of M counted, where those fit
abbrev pub with_counts : Totals → List ℕ → Totals
with_counts t M = record {
  cells = t.cells + length M;
  kept = t.kept + cnt 1 M;
  dropped = t.dropped + cnt 2 M;
  sixfold_kept = t.sixfold_kept;
  sixfold_all = t.sixfold_all;
}

unfoldable pub counted_of : Totals → List ℕ → Option Totals
counted_of t M =
    cond (fits64 (t.cells + length M) && (fits64 (t.kept + cnt 1 M) && fits64 (t.dropped + cnt 2 M))) (Some (with_counts t M)) None

-- the answer for tables that are not refused
abbrev pub added_of : Totals → List ℕ → List ℕ → List ℕ → Result Totals Uncovered
added_of t T C M = answer_of (total_rows (grown t T C M)) t (grown t T C M)

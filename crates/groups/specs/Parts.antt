-- What the work table holds on the way to the labels: n entries for the points, and behind them one for each cell. X has for each cell
-- 0, or not 0 where it is crossed.
use Rattle.std.specs.Prelude.{◌≡◌, ◌≢◌, List, ℕ, ◌+◌, ◌*◌, ◌≤◌, ◌<◌, length, get_or, set, take, drop}
use Rattle.mesh.specs.Mesh.{points_of, cells_of, most, Cells}
use Rattle.links.specs.Labels.{label_at}
use Rattle.links.specs.Walks.{Groups}
use Rattle.links.specs.Parts.{Forest, Rooted, SameCell, Joint}

-- the cells, and as much work as they ask for
pub record Sized (C w : List ℕ) (n : ℕ) : Type 0 where
  pub cells : Cells C n
  pub long : length w ≡ n + cells_of C

-- the same where the cells name points of the table P
pub record Laid (P C w : List ℕ) (n : ℕ) : Type 0 where
  pub points : n ≡ points_of P
  pub sized : Sized C w n

-- the points are linked
pub record Linked (C X w : List ℕ) (n : ℕ) : Type 0 where
  pub sized : Sized C w n
  pub joint : Joint C X (take n w)

-- one root is asked for
pub record RootAsked (C w : List ℕ) (n i : ℕ) : Type 0 where
  pub sized : Sized C w n
  pub forest : Forest (take n w)
  pub inside : i < cells_of C

pub record RootNoted (C X w w' : List ℕ) (n i : ℕ) : Type 0 where
  pub crossed : get_or X i 0 ≢ 0 → w' ≡ w
  pub root : ℕ
  pub noted : get_or X i 0 ≡ 0 → Rooted (take n w) (take n w') (get_or C (i * 4) 0) root × (drop n w' ≡ set (drop n w) i root)

-- the entry of each cell that is not crossed has the group of its first vertex
pub record Rooting (C X w : List ℕ) (n : ℕ) : Type 0 where
  pub sized : Sized C w n
  pub f : ℕ → ℕ
  pub groups : Groups (SameCell C X (length C)) f
  pub noted : (j : ℕ) → j < cells_of C → get_or X j 0 ≡ 0 → (get_or (drop n w) j 0 ≡ f (get_or C (j * 4) 0)) × (get_or (drop n w) j 0 < n)

-- one cell is noted as the last of its group so far
pub record LastAsked (X w : List ℕ) (n i : ℕ) : Type 0 where
  pub inside : n + i < length w
  pub small : i ≤ most
  pub root : get_or X i 0 ≡ 0 → get_or w (n + i) 0 < n

pub record LastNoted (X w w' : List ℕ) (n i : ℕ) : Type 0 where
  pub crossed : get_or X i 0 ≢ 0 → w' ≡ w
  pub noted : get_or X i 0 ≡ 0 → w' ≡ set w (get_or w (n + i) 0) i

-- for each cell that is not crossed the entry of its root has its label
pub record Labelled (C X w : List ℕ) (n : ℕ) : Type 0 where
  pub sized : Sized C w n
  pub root : (i : ℕ) → i < cells_of C → get_or X i 0 ≡ 0 → get_or w (n + i) 0 < n
  pub label : (i : ℕ) → i < cells_of C → get_or X i 0 ≡ 0 → get_or w (get_or w (n + i) 0) 0 ≡ label_at C X (cells_of C) i

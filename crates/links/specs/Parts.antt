-- What the parts of the code ask and give: a table of parents whose links go down, and vertices joined by the cells that name them.
use Rattle.std.specs.Prelude.{◌≡◌, ◌≢◌, Bool, cond, ◌&&◌, List, ℕ, ◌/◌, ◌≤◌, ◌<◌, min, max, eqb, length, get_or}
use Rattle.lists.specs.Tables.{all_below}
use Rattle.mesh.specs.Mesh.{cells_of, most, Cells, cell_of, Points}
use Rattle.mesh.specs.declared.Cell.{Cell}
use Rattle.links.specs.Walks.{Groups}

-- no parent is above
pub record Forest (P : List ℕ) : Type 0 where
  pub down : (i : ℕ) → i < length P → get_or P i 0 ≤ i

-- f gives each entry of the table the entry where its parents end
pub record Roots (P : List ℕ) (f : ℕ → ℕ) : Type 0 where
  pub keeps : (i : ℕ) → i < length P → f (get_or P i 0) ≡ f i
  pub ends : (i : ℕ) → i < length P → get_or P i 0 ≡ i → f i ≡ i

-- what remains of a table when the root r of x was looked for
pub record Rooted (P P' : List ℕ) (x r : ℕ) : Type 0 where
  pub forest : Forest P'
  pub within : r < length P'
  pub root : get_or P' r 0 ≡ r
  pub finds : (f : ℕ → ℕ) → Roots P f → Roots P' f × (r ≡ f x)

-- the labelling f, with the group of x and that of y made one
unfoldable pub relabel : (ℕ → ℕ) → ℕ → ℕ → ℕ → ℕ
relabel f old new i = cond (eqb (f i) old) new (f i)

abbrev pub merge : (ℕ → ℕ) → ℕ → ℕ → ℕ → ℕ
merge f x y = relabel f (max (f x) (f y)) (min (f x) (f y))

pub record Joined (P P' : List ℕ) (x y : ℕ) : Type 0 where
  pub forest : Forest P'
  pub merges : (f : ℕ → ℕ) → Roots P f → Roots P' (merge f x y)

-- the groups of two points are to be joined
pub record JoinAsked (P : List ℕ) (x y : ℕ) : Type 0 where
  pub forest : Forest P
  pub x_in : x < length P
  pub y_in : y < length P
  pub small : length P ≤ most

-- the cell that names four points
abbrev pub cell_from : ℕ → ℕ → ℕ → ℕ → Cell
cell_from a b c d = record { a = a; b = b; c = c; d = d }

-- those of a cell's points
pub record FourAsked (P : List ℕ) (k : Cell) : Type 0 where
  pub forest : Forest P
  pub points : Points (length P) k
  pub small : length P ≤ most

-- the points of a cell have one parent
unfoldable pub one_parent : List ℕ → Cell → Bool
one_parent P k =
    eqb (get_or P k.a 0) (get_or P k.b 0) && eqb (get_or P k.a 0) (get_or P k.c 0) && eqb (get_or P k.a 0) (get_or P k.d 0)

-- they are joined, each with the first
pub record JoinedFour (P P' : List ℕ) (k : Cell) : Type 0 where
  pub forest : Forest P'
  pub merges : (f : ℕ → ℕ) → Roots P f → Roots P' (merge (merge (merge f k.a k.b) k.a k.c) k.a k.d)

-- every entry is its own parent
abbrev pub Own : List ℕ → Type 0
Own P = (i : ℕ) → i < length P → get_or P i 0 ≡ i

-- each entry's parent is a root
abbrev pub Level : List ℕ → Type 0
Level P = (i : ℕ) → i < length P → get_or P (get_or P i 0) 0 ≡ get_or P i 0

-- the parents are now the roots; `one` tells whether all are 0
pub record Levelled (P P' : List ℕ) (one : Bool) : Type 0 where
  pub forest : Forest P'
  pub level : Level P'
  pub keeps : (f : ℕ → ℕ) → Roots P f → Roots P' f
  pub told : one ≡ all_below 1 P'

-- ---- vertices joined by cells: X has for each cell 0, or not 0 where it is left out; past its end none is

-- two vertices of one cell that is not left out, at places below M
pub record SameCell (C X : List ℕ) (M u v : ℕ) : Type 0 where
  pub p : ℕ
  pub q : ℕ
  pub p_in : p < M
  pub q_in : q < M
  pub cell : p / 4 ≡ q / 4
  pub free : get_or X (p / 4) 0 ≡ 0
  pub p_is : get_or C p 0 ≡ u
  pub q_is : get_or C q 0 ≡ v

-- the vertices of the cell i are joined, unless it is left out
pub record JoinedCell (C X P P' : List ℕ) (i : ℕ) : Type 0 where
  pub forest : Forest P'
  pub apart : get_or X i 0 ≢ 0 → P' ≡ P
  pub joined : get_or X i 0 ≡ 0 → JoinedFour P P' (cell_of C i)

-- the parents end at the labels of the vertices that cells join
pub record Joint (C X P : List ℕ) : Type 0 where
  pub forest : Forest P
  pub f : ℕ → ℕ
  pub roots : Roots P f
  pub groups : Groups (SameCell C X (length C)) f

-- the cell i is to be joined
pub record CellAsked (C P : List ℕ) (i : ℕ) : Type 0 where
  pub cells : Cells C (length P)
  pub forest : Forest P
  pub inside : i < cells_of C

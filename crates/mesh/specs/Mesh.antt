-- A mesh (rules 1.10, 1.11): a table of points, three numbers a point, and a table of cells, four points a cell.
use Rattle.std.specs.Prelude.{◌≡◌, List, [], ◌∷◌, ℕ, ◌+◌, ◌*◌, ◌/◌, ◌≤◌, ◌<◌, length, get_or}
use Rattle.mesh.specs.declared.Cell.{Cell}

-- points and cells, in whole entries, and the bound of each
abbrev pub points_of : List ℕ → ℕ
points_of P = length P / 3

abbrev pub cells_of : List ℕ → ℕ
cells_of C = length C / 4

abbrev pub most : ℕ
most = 536870912

-- whole cells, not too many, that name points below n
pub record Cells (C : List ℕ) (n : ℕ) : Type 0 where
  pub whole : length C ≡ 4 * cells_of C
  pub few : cells_of C ≤ most
  pub small : n ≤ most
  pub names : (p : ℕ) → p < length C → get_or C p 0 < n

-- the four points of the cell i
unfoldable pub cell_of : List ℕ → ℕ → Cell
cell_of C i = record { a = get_or C (4 * i) 0; b = get_or C (4 * i + 1) 0; c = get_or C (4 * i + 2) 0; d = get_or C (4 * i + 3) 0 }

-- each of its points passes
pub record Each (Q : ℕ → Type 0) (k : Cell) : Type 0 where
  pub a_is : Q k.a
  pub b_is : Q k.b
  pub c_is : Q k.c
  pub d_is : Q k.d

-- its points are below n
abbrev pub Points : ℕ → Cell → Type 0
Points n = Each (λ v. v < n)

-- its points one after the other
unfoldable pub in_order : Cell → List ℕ
in_order k = k.a ∷ k.b ∷ k.c ∷ k.d ∷ []

-- with the first two exchanged
abbrev pub exchanged : Cell → Cell
exchanged k = record { a = k.b; b = k.a; c = k.c; d = k.d }

-- What a pass over a part of the table does. Definitions only.
use Rattle.std.specs.Prelude.{◌≡◌, Bool, List, ℕ, ◌+◌, ◌-◌, ◌≤◌, ◌<◌, eqb, length, get_or}
use Rattle.lists.specs.Tests.{bit}
use Rattle.space.specs.Space.{Pos}
use Rattle.space.specs.Levels.{depth, size, off}
use Rattle.octants.specs.Oct.{Tree}
use Rattle.octants.specs.Table.{place}

-- entry i is 1
abbrev pub one : List ℕ → ℕ → Bool
one s i = eqb (get_or s i 0) 1

-- the first r bytes from o on are f's, and the others are e's
pub record Swept (e s : List ℕ) (o r : ℕ) (f : ℕ → ℕ) : Type 0 where
  pub long : length s ≡ length e
  pub done : (i : ℕ) → i < r → get_or s (o + i) 0 ≡ f i
  pub low : (j : ℕ) → j < o → get_or s j 0 ≡ get_or e j 0
  pub high : (j : ℕ) → o + r ≤ j → get_or s j 0 ≡ get_or e j 0

-- from the level lo levels down up to hi the table's bytes are the tree's bits
pub record Shows (d : Pos) (l : ℕ) (s : List ℕ) (t : Tree) (lo hi : ℕ) : Type 0 where
  pub byte : (j r : ℕ) → lo ≤ j → j < hi → r < size (depth d j) → get_or s (off d j + r) 0 ≡ bit (t (l - j) (place (depth d j) r))

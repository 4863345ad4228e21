-- The shell of a row: which octants of the level below, along the row, are split in one of the rows that touch it. Definitions only.
use Rattle.std.specs.Prelude.{◌≡◌, Bool, false, not, ◌&&◌, ◌||◌, List, ℕ, ◌+◌, ◌*◌, ◌^◌, ◌≤◌, ◌<◌, leb, length}
use Rattle.lists.specs.Tests.{any, bit}
use Rattle.space.specs.Space.{pos}
use Rattle.octants.specs.Oct.{near}
use Rattle.octants.specs.Table.{place}
use Rattle.octree.specs.Parts.{counts_of, below_of, Held, in_level, Stacked}
use Rattle.octree.specs.Sweep.{one}
use Rattle.octree.specs.declared.Level.{Level}

-- k is lo or more, and passes
abbrev pub from : ℕ → (ℕ → Bool) → ℕ → Bool
from lo f k = leb lo k && f k

-- some number from lo on, below hi, passes
abbrev pub some : ℕ → ℕ → (ℕ → Bool) → Bool
some lo hi f = any hi (from lo f)

-- b is a with the octants of a row of w marked that pass f; octant x has entry x + 1
pub record Merged (a b : List ℕ) (w : ℕ) (f : ℕ → Bool) : Type 0 where
  pub long : length b ≡ length a
  pub marks : (x : ℕ) → x < w → one b (x + 1) ≡ one a (x + 1) || f x
  pub before : one b 0 ≡ one a 0
  pub past : (j : ℕ) → w < j → one b j ≡ one a j

-- a row of a layer that begins at o, in a level with w octants to a row: whether its octant x is split
abbrev pub in_row : List ℕ → (o w : ℕ) → (y x : ℕ) → Bool
in_row s o w y x = one s (o + y * w + x)

-- in some of the rows y0 up to y1 of the layer
abbrev pub in_rows : List ℕ → (o w y0 y1 : ℕ) → ℕ → Bool
in_rows s o w y0 y1 x = some y0 y1 (λ y. in_row s o w y x)

-- and in some of the layers z0 up to z1 of the level
abbrev pub in_layers : List ℕ → Level → (y0 y1 z0 z1 : ℕ) → ℕ → Bool
in_layers s v y0 y1 z0 z1 x = some z0 z1 (λ z. in_rows s (v.start + z * (v.nx * v.ny)) v.nx y0 y1 x)

-- rows and layers of a level that the table holds, and room to mark a row of it
pub record LayersAsked (seen s : List ℕ) (v : Level) (y0 y1 z0 z1 : ℕ) : Type 0 where
  pub room : v.nx + 2 ≤ length seen
  pub rows : y0 ≤ y1
  pub rows_in : y1 ≤ v.ny
  pub layers : z0 ≤ z1
  pub layers_in : z1 ≤ v.nz
  pub small : v.nx * v.ny < 2 ^ 32
  pub held : Held s v

-- one past the last octant of the level below, 2 n along the axis, that touches octant y
pub record Ends (y n r : ℕ) : Type 0 where
  pub near : r ≤ 2 * y + 3
  pub inside : r ≤ 2 * n
  pub all : (k : ℕ) → k ≤ 2 * y + 2 → k < 2 * n → k < r

-- the four entries of octant x: the octants of the level below that touch it, along the row
abbrev pub touched_of : List ℕ → ℕ → Bool
touched_of seen x = any 4 (λ e. one seen (2 * x + e))

-- a table of marks with room for a row of w octants, none of them marked
pub record Blank (seen : List ℕ) (w : ℕ) : Type 0 where
  pub room : w + 2 ≤ length seen
  pub none : (j : ℕ) → one seen j ≡ false

-- these entries tell which of the n octants of row (y, z) a split octant of the level v, the one below, touches
pub record Seen (seen s : List ℕ) (v : Level) (n y z : ℕ) : Type 0 where
  pub tells : (x : ℕ) → x < n → touched_of seen x ≡ near (counts_of v) (in_level s v) (pos x y z)

-- ---- a level

-- a level over another, with rows short enough for the shell
pub record LevelAsked (s : List ℕ) (v : Level) : Type 0 where
  pub stacked : Stacked s v
  pub short : v.nx ≤ 512

-- a split octant of the level below touches octant r of the level, or stands in it
unfoldable pub touches : List ℕ → Level → ℕ → Bool
touches s v r = near (counts_of (below_of v)) (in_level s (below_of v)) (place (counts_of v) r)

-- octant r once the level is balanced
abbrev pub balanced_byte : List ℕ → Level → ℕ → ℕ
balanced_byte s v r = bit (one s (v.start + r) || touches s v r)

-- octant r would be split by the balance, and is not
abbrev pub gives : List ℕ → Level → ℕ → Bool
gives s v r = not (one s (v.start + r)) && touches s v r

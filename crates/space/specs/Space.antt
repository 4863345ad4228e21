-- The three axes, and places by a coordinate on each.
use Rattle.std.specs.Prelude.{ℕ, ◌<◌}

pub data Axis : Type 0 where
  ax ay az : Axis

-- in units that each use says
abbrev pub Pos : Type 0
Pos = Axis → ℕ

abbrev pub pos : ℕ → ℕ → ℕ → Pos
pos i j k ax = i
pos i j k ay = j
pos i j k az = k

-- below n along each axis
abbrev pub Inside : Pos → Pos → Type 0
Inside n x = (a : Axis) → x a < n a

-- the axis after a, modulo 3
abbrev pub next : Axis → Axis
next ax = ay
next ay = az
next az = ax

-- u along axis a, v along the next axis, w along the one after it
abbrev pub frame : Axis → ℕ → ℕ → ℕ → Pos
frame ax u v w = pos u v w
frame ay u v w = pos w u v
frame az u v w = pos v w u

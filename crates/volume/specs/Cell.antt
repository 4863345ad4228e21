-- A cell's corners, out of a table P of bit patterns, three to a point.
use Rattle.std.specs.Prelude.{List, ℕ, ◌+◌, ◌*◌, get_or}
use Rattle.float32.specs.Operations.{f32}
use Rattle.mesh.specs.declared.Cell.{Cell}
use Rattle.volume.specs.declared.Point.{Point}
use Rattle.volume.specs.declared.Corners.{Corners}

-- the point i: every NaN pattern gives the NaN
unfoldable pub point_of : List ℕ → ℕ → Point
point_of P i = record { x = f32 (get_or P (3 * i) 0); y = f32 (get_or P (3 * i + 1) 0); z = f32 (get_or P (3 * i + 2) 0) }

-- those of a cell's points
unfoldable pub corners_of : List ℕ → Cell → Corners
corners_of P k = record { a = point_of P k.a; b = point_of P k.b; c = point_of P k.c; d = point_of P k.d }

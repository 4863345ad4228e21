-- The volume of a cell, the verdict on it, and its centroid. Every operation is one of f32, in the order written.
use Rattle.std.specs.Prelude.{cond, List, ℕ, Float}
use Rattle.std.specs.Float.Ieee.{neg, lt}
use Rattle.float32.specs.Operations.{◌+f◌, ◌-f◌, ◌*f◌, ◌/f◌, f32, zero32}
use Rattle.mesh.specs.Mesh.{cell_of}
use Rattle.volume.specs.Cell.{corners_of}
use Rattle.volume.specs.declared.Point.{Point}
use Rattle.volume.specs.declared.Corners.{Corners}
use Rattle.volume.specs.declared.Verdict.{Verdict}
use Rattle.volume.specs.declared.Verdict.TheVariants.{Kept, Exchanged, Dropped}

abbrev pub minus_of : Point → Point → Point
minus_of u v = record { x = u.x -f v.x; y = u.y -f v.y; z = u.z -f v.z }

abbrev pub cross_of : Point → Point → Point
cross_of u v =
    record {
      x = u.y *f v.z -f v.y *f u.z;
      y = u.z *f v.x -f v.z *f u.x;
      z = u.x *f v.y -f v.x *f u.y;
    }

abbrev pub dot_of : Point → Point → Float
dot_of u v = u.x *f v.x +f u.y *f v.y +f u.z *f v.z

-- rule 7.6: ((b - a) × (c - a)) · (d - a) / 6
unfoldable pub volume_of : Corners → Float
volume_of k = dot_of (cross_of (minus_of k.b k.a) (minus_of k.c k.a)) (minus_of k.d k.a) /f f32 0x40c0_0000

-- the size of x: a NaN stays one
unfoldable pub size_of : Float → Float
size_of x = cond (lt x zero32) (neg x) x

-- c · c · c · 1.0e-6, from the left
abbrev pub least_of : Float → Float
least_of c = c *f c *f c *f f32 0x3586_37bd

-- strictly less than the least volume: dropped; else negative: exchanged; else, a NaN and -0 too, kept
unfoldable pub verdict_of : Float → Float → Verdict
verdict_of v least = cond (lt (size_of v) least) (Dropped v) (cond (lt v zero32) (Exchanged v) (Kept v))

-- the volume that it carries
abbrev pub volume_in : Verdict → Float
volume_in (Kept v) = v
volume_in (Exchanged v) = v
volume_in (Dropped v) = v

-- the verdict on the cell i of a table of cells
unfoldable pub verdict_at : List ℕ → List ℕ → ℕ → Float → Verdict
verdict_at P C i least = verdict_of (volume_of (corners_of P (cell_of C i))) least

-- the four added in vertex order from zero, and divided by 4
abbrev pub centre_of : Float → Float → Float → Float → Float
centre_of a b c d = (zero32 +f a +f b +f c +f d) /f f32 0x4080_0000

abbrev pub centroid_of : Corners → Point
centroid_of k =
    record {
      x = centre_of k.a.x k.b.x k.c.x k.d.x;
      y = centre_of k.a.y k.b.y k.c.y k.d.y;
      z = centre_of k.a.z k.b.z k.c.z k.d.z;
    }

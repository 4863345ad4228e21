-- What a vertex of a plan is: an integer triple and the bits of its point, three entries of a table each; and the roots of a plan.
use Rattle.std.specs.Prelude.{List, [], ◌∷◌, ℕ, Float}
use Rattle.std.specs.Float.{binary32}
use Rattle.std.specs.Float.Ieee.{to_bits}
use Rattle.float32.specs.Operations.{◌+f◌, ◌*f◌, whole32}
use Rattle.space.specs.Space.{Axis, ax, ay, az, Pos, pos}
use Rattle.octree.specs.declared.Roots.{Roots}
use Rattle.plan.specs.declared.Plan.{Plan}

-- where the whole number v stands along an axis, as a bit pattern
unfoldable pub place_of : Float → Float → ℕ → ℕ
place_of origin half v = to_bits binary32 (origin +f whole32 v *f half)

abbrev pub dims_of : Plan → Pos
dims_of p = pos p.nx p.ny p.nz

-- its roots
abbrev pub roots_in : Plan → Roots
roots_in p = record { nx = p.nx; ny = p.ny; nz = p.nz; levels = p.levels }

abbrev pub origin_at : Plan → Axis → Float
origin_at p ax = p.ox
origin_at p ay = p.oy
origin_at p az = p.oz

-- along an axis: the whole number itself, and the bits of where it stands
abbrev pub triple_at : Axis → ℕ → ℕ
triple_at a v = v

abbrev pub point_at : Plan → Axis → ℕ → ℕ
point_at p a v = place_of (origin_at p a) p.half v

-- three entries a vertex: what g gives along each axis
unfoldable pub spread : (Axis → ℕ → ℕ) → List Pos → List ℕ
spread g [] = []
spread g (p ∷ ps) = g ax (p ax) ∷ g ay (p ay) ∷ g az (p az) ∷ spread g ps

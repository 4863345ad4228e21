-- A vertex as one number, so that the order of the numbers is that of the triples: by x, then y, then z.
use Rattle.std.specs.Prelude.{◌≡◌, ◌⊎◌, ℕ, ◌+◌, ◌*◌, ◌/◌, ◌%◌, ◌<◌}
use Rattle.space.specs.Space.{Axis, ax, ay, az, Pos, pos}

-- a coordinate, which is at most 4,096, has 13 bits
abbrev pub field : ℕ
field = 8192

-- what one step along an axis adds to a key
abbrev pub stride : Axis → ℕ
stride ax = 67108864
stride ay = field
stride az = 1

-- keys are below this
abbrev pub most_keys : ℕ
most_keys = 549755813888

unfoldable pub key_of : Pos → ℕ
key_of p = p ax * stride ax + p ay * stride ay + p az

-- the triple of a key
abbrev pub triple_of : ℕ → Pos
triple_of k = pos (k / stride ax) (k / stride ay % field) (k % field)

-- each coordinate fits its field
abbrev pub Packs : Pos → Type 0
Packs p = (a : Axis) → p a < field

-- p stands before q: by x, then y, then z
abbrev pub Before : Pos → Pos → Type 0
Before p q = (p ax < q ax) ⊎ ((p ax ≡ q ax) × ((p ay < q ay) ⊎ ((p ay ≡ q ay) × (p az < q az))))

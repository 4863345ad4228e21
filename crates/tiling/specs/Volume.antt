-- Six times the volume of a cell, in whole units, as rule R3.1 has it: the absolute value of the determinant of its three edge vectors. Nothing wraps:
-- these are whole numbers with a sign.
use Rattle.std.specs.Prelude.{List, [], ◌∷◌, ℕ, ◌+◌, ℤ, nat_abs, ◌+ℤ◌, ◌-ℤ◌, ◌*ℤ◌}
use Rattle.std.proofs.Math.IntN as Int
use Rattle.space.specs.Space.{Axis, ax, ay, az, Pos, next}
use Rattle.octree_cells.specs.Cells.{Cell}

abbrev pub Vector : Type 0
Vector = Axis → ℤ

-- the edge from p to q
abbrev pub edge : Pos → Pos → Vector
edge p q a = Int.pos (q a) -ℤ Int.pos (p a)

-- u × v, and u · v with the products summed x, y, z
abbrev pub cross : Vector → Vector → Vector
cross u v a = u (next a) *ℤ v (next (next a)) -ℤ v (next a) *ℤ u (next (next a))

abbrev pub dot : Vector → Vector → ℤ
dot u v = u ax *ℤ v ax +ℤ u ay *ℤ v ay +ℤ u az *ℤ v az

-- the determinant of three vectors
abbrev pub determinant : Vector → Vector → Vector → ℤ
determinant u v w = dot (cross u v) w

unfoldable pub six_fold : Cell → ℕ
six_fold c = nat_abs (determinant (edge c.c0 c.c1) (edge c.c0 c.c2) (edge c.c0 c.c3))

-- over all of them
unfoldable pub sum_six : List Cell → ℕ
sum_six [] = 0
sum_six (c ∷ cs) = six_fold c + sum_six cs

use mathlib.Core.Bool.{Bool}
use mathlib.Core.List.{List}
use Rattle.octree.specs.declared.Level.{Level}
use Prim.Native.Nat.{ℕ, ◌+◌, ◌*◌, ◌≤◌, ◌<◌}
use native.Mathlib.Omega.{arith}
use native.Mathlib.Nat.{mul-le-mul_right}
use Rattle.balance.specs.Parts.{in_rows}
use Rattle.balance.proofs.Merging.{marks_none, marks_more}
use Rattle.balance.proofs.merge_layers.Goals as goal

-- the rows of each layer
abbrev layers : List ℕ → Level → (y0 y1 : ℕ) → ℕ → ℕ → Bool
layers s v y0 y1 z = in_rows s (v.start + z * (v.nx * v.ny)) v.nx y0 y1

-- a layer is in the level
layer_room : (v : Level) {z z1 : ℕ} → z1 ≤ v.nz → z < z1 → z * (v.nx * v.ny) + v.nx * v.ny ≤ v.nx * v.ny * v.nz
layer_room v p h = omega (arith, mul-le-mul_right (v.nx * v.ny) h, mul-le-mul_right (v.nx * v.ny) p)

pub loop-z-init : goal.loop-z-init
loop-z-init c = marks_none _ _ _ (layers c.args.s.now c.args.v c.args.y0 c.args.y1)

pub loop-z-preserved : goal.loop-z-preserved
loop-z-preserved c = marks_more _ _ (layers c.args.s.now c.args.v c.args.y0 c.args.y1) c.loop-z.auto.z c.loop-z.invariant c.merge_rows.ensures

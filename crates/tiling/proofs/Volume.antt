-- A cell drawn h times as large has h * h * h times the volume. Assumes nothing.
use mathlib.Core.Path.{◌≡◌, refl, sym, ap, ap₂, ◌∙◌}
use Prim.Native.Nat.{ℕ, ◌*◌}
use lib.IntN.{ℤ, nat_abs, ◌+ℤ◌, ◌-ℤ◌, ◌*ℤ◌, +ℤ_assoc, +ℤ_comm}
use lib.IntN as Int
use Rattle.space.specs.Space.{Axis, ax, ay, az, Pos, next}
use Rattle.octree_cells.specs.Cells.{Cell}
use Rattle.octree_cells.proofs.Points.{Drawn}
use Rattle.tiling.specs.Volume.{Vector, edge, cross, determinant, six_fold}
use Rattle.tiling.proofs.Signed.{times, times_product, times_minus, times_plus, times_edge, abs_mul}

-- the axes from a on, and a vector by its coordinates along them
abbrev from : Axis → Axis → Axis
from a ax = a
from a ay = next a
from a az = next (next a)

abbrev seen : Axis → Vector → Vector
seen a u b = u (from a b)

rotate : (x y z : ℤ) → x +ℤ y +ℤ z ≡ y +ℤ z +ℤ x
rotate x y z = +ℤ_assoc x y z ∙ +ℤ_comm x (y +ℤ z)

-- the determinant is the same along the axes from a on
turned : (a : Axis) (u v w : Vector) → determinant u v w ≡ determinant (seen a u) (seen a v) (seen a w)
turned ax u v w = refl
turned ay u v w = rotate (cross u v ax *ℤ w ax) (cross u v ay *ℤ w ay) (cross u v az *ℤ w az)
turned az u v w = sym (rotate (cross u v az *ℤ w az) (cross u v ax *ℤ w ax) (cross u v ay *ℤ w ay))

-- three vectors that are h times as large
module _ (h : ℕ) (u v w u₁ v₁ w₁ : Vector) (eu : (a : Axis) → u a ≡ times h (u₁ a)) (ev : (a : Axis) → v a ≡ times h (v₁ a)) (ew : (a : Axis) → w a ≡ times h (w₁ a)) where
  product : (a b : Axis) → u a *ℤ v b ≡ times (h * h) (u₁ a *ℤ v₁ b)
  product a b = ap₂ (λ (x y : ℤ). x *ℤ y) (eu a) (ev b) ∙ times_product h h (u₁ a) (v₁ b)

  product' : (a b : Axis) → v a *ℤ u b ≡ times (h * h) (v₁ a *ℤ u₁ b)
  product' a b = ap₂ (λ (x y : ℤ). x *ℤ y) (ev a) (eu b) ∙ times_product h h (v₁ a) (u₁ b)

  cross_times : (a : Axis) → cross u v a ≡ times (h * h) (cross u₁ v₁ a)
  cross_times a =
      ap₂ (λ (x y : ℤ). x -ℤ y) (product (next a) (next (next a))) (product' (next a) (next (next a)))
      ∙ times_minus (h * h) (u₁ (next a) *ℤ v₁ (next (next a))) (v₁ (next a) *ℤ u₁ (next (next a)))

  term : (a : Axis) → cross u v a *ℤ w a ≡ times (h * h * h) (cross u₁ v₁ a *ℤ w₁ a)
  term a = ap₂ (λ (x y : ℤ). x *ℤ y) (cross_times a) (ew a) ∙ times_product (h * h) h (cross u₁ v₁ a) (w₁ a)

  determinant_times : determinant u v w ≡ times (h * h * h) (determinant u₁ v₁ w₁)
  determinant_times =
      ap₂ (λ (x y : ℤ). x +ℤ y) (ap₂ (λ (x y : ℤ). x +ℤ y) (term ax) (term ay) ∙ times_plus (h * h * h) (cross u₁ v₁ ax *ℤ w₁ ax) (cross u₁ v₁ ay *ℤ w₁ ay)) (term az)
      ∙ times_plus (h * h * h) (cross u₁ v₁ ax *ℤ w₁ ax +ℤ cross u₁ v₁ ay *ℤ w₁ ay) (cross u₁ v₁ az *ℤ w₁ az)

-- an edge between drawn points
drawn_edge : (a : Axis) (i j k h : ℕ) (p q p₁ q₁ : Pos) → Drawn a i j k h p p₁ → Drawn a i j k h q q₁ → (b : Axis) → seen a (edge p q) b ≡ times h (edge p₁ q₁ b)
drawn_edge a i j k h p q p₁ q₁ dp dq ax = rw (dp.on0, dq.on0) (times_edge i h (p₁ ax) (q₁ ax))
drawn_edge a i j k h p q p₁ q₁ dp dq ay = rw (dp.on1, dq.on1) (times_edge j h (p₁ ay) (q₁ ay))
drawn_edge a i j k h p q p₁ q₁ dp dq az = rw (dp.on2, dq.on2) (times_edge k h (p₁ az) (q₁ az))

-- wherever and along whichever axis it is drawn
pub drawn_six : (a : Axis) (i j k h : ℕ) (c e : Cell)
    → Drawn a i j k h c.c0 e.c0 → Drawn a i j k h c.c1 e.c1 → Drawn a i j k h c.c2 e.c2 → Drawn a i j k h c.c3 e.c3
    → six_fold c ≡ h * h * h * six_fold e
unfolding six_fold
drawn_six a i j k h c e d0 d1 d2 d3 =
    ap nat_abs (turned a u v w
    ∙ determinant_times h (seen a u) (seen a v) (seen a w) u₁ v₁ w₁ (drawn_edge a i j k h _ _ e.c0 e.c1 d0 d1) (drawn_edge a i j k h _ _ e.c0 e.c2 d0 d2) (drawn_edge a i j k h _ _ e.c0 e.c3 d0 d3))
    ∙ abs_mul (Int.pos (h * h * h)) (determinant u₁ v₁ w₁)
  where
    u : Vector
    u = edge c.c0 c.c1

    v : Vector
    v = edge c.c0 c.c2

    w : Vector
    w = edge c.c0 c.c3

    u₁ : Vector
    u₁ = edge e.c0 e.c1

    v₁ : Vector
    v₁ = edge e.c0 e.c2

    w₁ : Vector
    w₁ = edge e.c0 e.c3

-- The points of an octant, drawn from those of a cube of width 2 at 0. Assumes nothing.
use mathlib.Core.Path.{◌≡◌, ap}
use mathlib.Core.Bool.{Bool, true}
use Prim.Native.Nat.{ℕ, ◌+◌, ◌*◌, ◌/◌, ◌^◌}
use native.Mathlib.Omega.{arith}
use Rattle.space.specs.Space.{Axis, ax, ay, az, Pos, pos, next, frame}
use Rattle.octants.specs.Oct.{width}
use Rattle.octree_cells.specs.Cells.{Face, corner, centre, middle, end, face, beside}

-- p is q drawn h times as large from (i, j, k) on, along axis a and the two after it
pub record Drawn (a : Axis) (i j k h : ℕ) (p q : Pos) : Type 0 where
  pub on0 : p a ≡ i + q ax * h
  pub on1 : p (next a) ≡ j + q ay * h
  pub on2 : p (next (next a)) ≡ k + q az * h

-- an octant's points, drawn from those of a cube of width 2 at 0
module _ (a : Axis) (m : ℕ) (x : Pos) where
  abbrev pub Here : Pos → Pos → Type 0
  Here p q = Drawn a (x a * width m) (x (next a) * width m) (x (next (next a)) * width m) (2 ^ m) p q

on_corner : (i e n : ℕ) → (i + e) * (2 * n) ≡ i * (2 * n) + 2 * e * n
on_corner i e n = omega arith

pub drawn_corner : (a : Axis) (m : ℕ) (x : Pos) (e f g : ℕ) → Here a m x (corner m x (frame a e f g)) (pos (2 * e) (2 * f) (2 * g))
drawn_corner ax m x e f g = record { on0 = on_corner (x ax) e (2 ^ m); on1 = on_corner (x ay) f (2 ^ m); on2 = on_corner (x az) g (2 ^ m) }
drawn_corner ay m x e f g = record { on0 = on_corner (x ay) e (2 ^ m); on1 = on_corner (x az) f (2 ^ m); on2 = on_corner (x ax) g (2 ^ m) }
drawn_corner az m x e f g = record { on0 = on_corner (x az) e (2 ^ m); on1 = on_corner (x ax) f (2 ^ m); on2 = on_corner (x ay) g (2 ^ m) }

on_centre : (i n : ℕ) → i * (2 * n) + 2 * n / 2 ≡ i * (2 * n) + 1 * n
on_centre i n = omega arith

pub drawn_centre : (a : Axis) (m : ℕ) (x : Pos) → Here a m x (centre m x) (pos 1 1 1)
drawn_centre a m x = record { on0 = on_centre (x a) (2 ^ m); on1 = on_centre (x (next a)) (2 ^ m); on2 = on_centre (x (next (next a))) (2 ^ m) }

on_next : (i n : ℕ) → (i + 1) * (2 * n) + 2 * n / 2 ≡ i * (2 * n) + 3 * n
on_next i n = omega arith

pub drawn_opposite : (a : Axis) (m : ℕ) (x : Pos) → Here a m x (centre m (beside a true x)) (pos 3 1 1)
drawn_opposite ax m x = record { on0 = on_next (x ax) (2 ^ m); on1 = on_centre (x ay) (2 ^ m); on2 = on_centre (x az) (2 ^ m) }
drawn_opposite ay m x = record { on0 = on_next (x ay) (2 ^ m); on1 = on_centre (x az) (2 ^ m); on2 = on_centre (x ax) (2 ^ m) }
drawn_opposite az m x = record { on0 = on_next (x az) (2 ^ m); on1 = on_centre (x ax) (2 ^ m); on2 = on_centre (x ay) (2 ^ m) }

on_middle : (i h p q u v r : ℕ) → p ≡ i + u * h → q ≡ i + v * h → u + v ≡ 2 * r → (p + q) / 2 ≡ i + r * h
on_middle i h p q u v r e f g =
    let k : (u + v) * h ≡ 2 * r * h = ap (λ (n : ℕ). n * h) g in
    omega arith

module _ (a : Axis) (i j k h : ℕ) where
  pub drawn_middle : (p q u v r : Pos) → Drawn a i j k h p u → Drawn a i j k h q v → ((b : Axis) → u b + v b ≡ 2 * r b) → Drawn a i j k h (middle p q) r
  drawn_middle p q u v r e f g = record {
    on0 = on_middle i h _ _ _ _ _ e.on0 f.on0 (g ax);
    on1 = on_middle j h _ _ _ _ _ e.on1 f.on1 (g ay);
    on2 = on_middle k h _ _ _ _ _ e.on2 f.on2 (g az);
  }

  pub record DrawnFace (f g : Face) : Type 0 where
    pub d0 : Drawn a i j k h f.p0 g.p0
    pub d1 : Drawn a i j k h f.p1 g.p1
    pub d2 : Drawn a i j k h f.p2 g.p2
    pub d3 : Drawn a i j k h f.p3 g.p3

-- the face of the small cube
abbrev pub small : Bool → Face
small s = record { p0 = pos (2 * end s) 0 0; p1 = pos (2 * end s) 2 0; p2 = pos (2 * end s) 2 2; p3 = pos (2 * end s) 0 2 }

pub by_axis : (u v r : Pos) → u ax + v ax ≡ 2 * r ax → u ay + v ay ≡ 2 * r ay → u az + v az ≡ 2 * r az → (b : Axis) → u b + v b ≡ 2 * r b
by_axis u v r p q s ax = p
by_axis u v r p q s ay = q
by_axis u v r p q s az = s

pub drawn_face : (a : Axis) (m : ℕ) (x : Pos) (s : Bool)
    → DrawnFace a (x a * width m) (x (next a) * width m) (x (next (next a)) * width m) (2 ^ m) (face m x a s) (small s)
drawn_face a m x s = record {
  d0 = drawn_corner a m x (end s) 0 0;
  d1 = drawn_corner a m x (end s) 1 0;
  d2 = drawn_corner a m x (end s) 1 1;
  d3 = drawn_corner a m x (end s) 0 1;
}

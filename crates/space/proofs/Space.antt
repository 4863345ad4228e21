-- Laws of places and frames. Assumes nothing.
use mathlib.Core.Path.{◌≡◌, refl, fun_ext}
use Prim.Native.Nat.{ℕ, ◌<◌}
use Rattle.space.specs.Space.{Axis, ax, ay, az, Pos, pos, Inside, next, frame}

-- what holds on each axis holds on all
pub on_all : (Q : Axis → Type 0) → Q ax → Q ay → Q az → (a : Axis) → Q a
on_all Q x y z ax = x
on_all Q x y z ay = y
on_all Q x y z az = z

pub inside_three : {nx ny nz x y z : ℕ} → x < nx → y < ny → z < nz → Inside (pos nx ny nz) (pos x y z)
inside_three p q r ax = p
inside_three p q r ay = q
inside_three p q r az = r

pub pos_eta : (x : Pos) → pos (x ax) (x ay) (x az) ≡ x
pos_eta x = fun_ext (on_all (λ a. pos (x ax) (x ay) (x az) a ≡ x a) refl refl refl)

-- what holds along the three axes of a frame holds along every axis
pub frame_all : (R : ℕ → ℕ → Type 0) (a : Axis) (u v w p q r : ℕ) → R u p → R v q → R w r → (b : Axis) → R (frame a u v w b) (frame a p q r b)
frame_all R ax u v w p q r x y z ax = x
frame_all R ax u v w p q r x y z ay = y
frame_all R ax u v w p q r x y z az = z
frame_all R ay u v w p q r x y z ax = z
frame_all R ay u v w p q r x y z ay = x
frame_all R ay u v w p q r x y z az = y
frame_all R az u v w p q r x y z ax = y
frame_all R az u v w p q r x y z ay = z
frame_all R az u v w p q r x y z az = x

-- a place is the frame of its coordinates
pub frame_eta : (a : Axis) (y : Pos) → frame a (y a) (y (next a)) (y (next (next a))) ≡ y
frame_eta ax y = pos_eta y
frame_eta ay y = pos_eta y
frame_eta az y = pos_eta y

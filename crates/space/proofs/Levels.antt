-- Where a level of a table begins, and what bounds it. Assumes nothing.
use mathlib.Core.Path.{◌≡◌, refl, ap, sym, ◌∙◌}
use Prim.Native.Nat.{ℕ, zero, suc, ◌+◌, ◌*◌, ◌-◌, ◌/◌, ◌^◌, ◌≤◌}
use native.Mathlib.Omega.{arith}
use native.Mathlib.Nat.{mul-le-mul, two-pow-succ}
use lib.Pow.{pow_mono, pow_pos}
use Rattle.space.specs.Space.{Axis, ax, ay, az, Pos}
use Rattle.space.specs.Levels.{most_levels, depth, size, off}

pub off_suc : (d : Pos) (k : ℕ) → off d (suc k) ≡ off d k + size (depth d k)
unfolding off
off_suc d k = refl

-- ---- in closed form

abbrev cubed : ℕ → ℕ
cubed w = w * w * w

size_depth : (x y z p : ℕ) → x * p * (y * p) * (z * p) ≡ x * y * z * (p * p * p)
size_depth x y z p = omega arith

geometric : (p : ℕ) → 1 ≤ p → (8 * p - 1) / 7 ≡ (p - 1) / 7 + p
geometric p h = omega arith

eightfold : (p : ℕ) → cubed (2 * p) ≡ 8 * cubed p
eightfold p = omega arith

-- a level begins after those above it: 1 + 8 + 64 + … octants to a root
pub off_closed : (d : Pos) (k : ℕ) → off d k ≡ size d * ((cubed (2 ^ k) - 1) / 7)
unfolding off
off_closed d zero = omega arith
off_closed d (suc k) =
    let p : ℕ = 2 ^ k in
    let h : 1 * 1 * 1 ≤ cubed p = mul-le-mul (mul-le-mul (pow_pos k) (pow_pos k)) (pow_pos k) in
    let e : cubed (2 ^ suc k) ≡ 8 * cubed p = let f : 2 ^ suc k ≡ 2 * p = omega (arith, two-pow-succ k) in ap cubed f ∙ eightfold p in
    let g : (cubed (2 ^ suc k) - 1) / 7 ≡ (cubed p - 1) / 7 + cubed p = ap (λ (n : ℕ). (n - 1) / 7) e ∙ geometric (cubed p) h in
    let q : off d k + size (depth d k) ≡ size d * ((cubed p - 1) / 7) + size d * cubed p = omega (arith, off_closed d k, size_depth (d ax) (d ay) (d az) p) in
    q ∙ sym (ap (λ (n : ℕ). size d * n) g ∙ omega arith)

-- what is worked out on the way stays small: of counts up to m, w = 2 ^ k times as many to an axis
pub record Small (m : ℕ) (n : Pos) (w : ℕ) : Type 0 where
  pub xy : n ax * n ay ≤ m * m
  pub xyz : n ax * n ay * n az ≤ m * m * m
  pub ww : w * w ≤ 1024
  pub www : w * w * w ≤ 32768
  pub one : 1 ≤ w * w * w
  pub start : n ax * n ay * n az * ((w * w * w - 1) / 7) ≤ m * m * m * 4681
  pub xw : n ax * w ≤ m * 32
  pub yw : n ay * w ≤ m * 32
  pub zw : n az * w ≤ m * 32

pub small : {m w k : ℕ} (n : Pos) → ((a : Axis) → n a ≤ m) → w ≡ 2 ^ k → k ≤ most_levels → Small m n w
small {m} {w} {k} n few e h =
    let p : 2 ^ k ≤ 32 = pow_mono h in
    let hw : w ≤ 32 = omega arith in
    let h1 : 1 ≤ w = omega (arith, pow_pos k) in
    let a1 : n ax * n ay ≤ m * m = mul-le-mul (few ax) (few ay) in
    let a2 : n ax * n ay * n az ≤ m * m * m = mul-le-mul a1 (few az) in
    let a3 : w * w ≤ 32 * 32 = mul-le-mul hw hw in
    let a4 : w * w * w ≤ 32 * 32 * 32 = mul-le-mul a3 hw in
    let a5 : 1 * 1 * 1 ≤ w * w * w = mul-le-mul (mul-le-mul h1 h1) h1 in
    let q : (w * w * w - 1) / 7 ≤ 4681 = omega arith in
    record {
      xy = a1;
      xyz = a2;
      ww = a3;
      www = a4;
      one = a5;
      start = mul-le-mul a2 q;
      xw = mul-le-mul (few ax) hw;
      yw = mul-le-mul (few ay) hw;
      zw = mul-le-mul (few az) hw;
    }

-- What the machine holds of a signed number that is not too large: the number itself. Assumes nothing.
use mathlib.Core.Path.{sym, ap, ap₂, ◌∙◌, subst}
use Prim.Native.Nat.{ℕ, ◌+◌, ◌*◌, ◌^◌, ◌≤◌, ◌<◌}
use native.Mathlib.Nat.{mul-le-mul}
use native.Mathlib.Omega.{arith}
use lib.IntN.{ℤ, pos, negsuc, nat_abs, ◌+ℤ◌, ◌-ℤ◌, ◌*ℤ◌}
use mir.Syntax.{w64}
use mir.Val.{SFits, to_z, of_z}
use mir.ValLaws.{to_z-of_z}
use Rattle.tiling.proofs.Signed.{abs_mul, abs_plus, abs_minus}
use Rattle.coverage.specs.Parts.{Small, Held}

-- read back from its bits
abbrev pub back : ℤ → ℤ
back z = to_z w64 (of_z w64 z)

fits : (m : ℕ) (z : ℤ) → nat_abs z ≤ m → m < 2 ^ 63 → SFits w64 z
fits m (pos n) h k = record { sfits = omega arith }
fits m (negsuc n) h k = record { sfits = omega arith }

pub held : {m : ℕ} {x : ℤ} → m < 2 ^ 63 → Small m x → Held m x (back x)
held {m} {x} k h = record { same = to_z-of_z w64 x (fits m x h.small k); size = h.small }

-- and read back once more
pub again : {m : ℕ} {x r : ℤ} → m < 2 ^ 63 → Held m x r → Held m x (back r)
again {m} {x} {r} k h = record { same = ap back h.same ∙ to_z-of_z w64 x (fits m x h.size k); size = h.size }

pub as_small : {m : ℕ} {x r : ℤ} → Held m x r → Small m r
as_small {m} {x} {r} h = record { small = omega (arith, ap nat_abs h.same, h.size) }

module _ {m k : ℕ} {x r y s : ℤ} (p : Held m x r) (q : Held k y s) where
  pub product_fits : m * k < 2 ^ 63 → SFits w64 (r *ℤ s)
  product_fits h = subst (SFits w64) (sym (ap₂ (λ (u v : ℤ). u *ℤ v) p.same q.same)) (fits (m * k) (x *ℤ y) (omega (arith, abs_mul x y, mul-le-mul p.size q.size)) h)

  pub product_held : m * k < 2 ^ 63 → Held (m * k) (x *ℤ y) (back (r *ℤ s))
  product_held h = record {
    same = to_z-of_z w64 (r *ℤ s) (product_fits h) ∙ ap₂ (λ (u v : ℤ). u *ℤ v) p.same q.same;
    size = omega (arith, abs_mul x y, mul-le-mul p.size q.size);
  }

  pub minus_fits : m + k < 2 ^ 63 → SFits w64 (r -ℤ s)
  minus_fits h = subst (SFits w64) (sym (ap₂ (λ (u v : ℤ). u -ℤ v) p.same q.same)) (fits (m + k) (x -ℤ y) (omega (arith, abs_minus x y, p.size, q.size)) h)

  pub minus_held : m + k < 2 ^ 63 → Held (m + k) (x -ℤ y) (back (r -ℤ s))
  minus_held h = record {
    same = to_z-of_z w64 (r -ℤ s) (minus_fits h) ∙ ap₂ (λ (u v : ℤ). u -ℤ v) p.same q.same;
    size = omega (arith, abs_minus x y, p.size, q.size);
  }

  pub plus_fits : m + k < 2 ^ 63 → SFits w64 (r +ℤ s)
  plus_fits h = subst (SFits w64) (sym (ap₂ (λ (u v : ℤ). u +ℤ v) p.same q.same)) (fits (m + k) (x +ℤ y) (omega (arith, abs_plus x y, p.size, q.size)) h)

  pub plus_held : m + k < 2 ^ 63 → Held (m + k) (x +ℤ y) (back (r +ℤ s))
  plus_held h = record {
    same = to_z-of_z w64 (r +ℤ s) (plus_fits h) ∙ ap₂ (λ (u v : ℤ). u +ℤ v) p.same q.same;
    size = omega (arith, abs_plus x y, p.size, q.size);
  }

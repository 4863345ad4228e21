use Prim.Native.Nat.{ℕ, ◌*◌, ◌^◌, ◌%◌, ◌≤◌}
use mathlib.Core.Path.{◌≡◌, subst, sym}
use native.Mathlib.Nat.{mod-eq_of_lt, mul-le-mul_left}
use native.Mathlib.Omega.{arith}
use lib.Pow.{pow_mono}
use Rattle.lookup.proofs.width.Goals as goal

pub returns : goal.returns
returns c =
    let b : 2 * 2 ^ c.args.m ≤ 64 = mul-le-mul_left 2 (pow_mono c.requires) in
    let e : 2 * 2 ^ c.args.m % 18446744073709551616 ≡ 2 * 2 ^ c.args.m = mod-eq_of_lt (omega arith) in
    (e, subst (λ (n : ℕ). n ≤ 64) (sym e) b)

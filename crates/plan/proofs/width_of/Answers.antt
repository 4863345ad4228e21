use mathlib.Core.Path.{◌≡◌, ◌∙◌, sym, subst}
use Prim.Native.Nat.{ℕ, ◌≤◌, ◌*◌, ◌%◌, ◌^◌}
use native.Mathlib.Nat.{one-mul}
use native.Mathlib.Omega.{arith}
use lib.Dec.{lit<}
use lib.Pow.{shl_exact, pow_mono}
use Rattle.plan.proofs.width_of.Goals as goal

pub returns : goal.returns
returns c =
    let l = c.args.levels in
    let e : 1 * 2 ^ l % 4294967296 ≡ 2 ^ l = shl_exact 1 l 32 (lit< tt) (omega arith) ∙ one-mul (2 ^ l) in
    record { value = e; upper_bound = subst (λ (n : ℕ). n ≤ 32) (sym e) (pow_mono c.requires) }

use Prim.Native.Nat.{◌*◌, ◌^◌, ◌≤◌}
use native.Mathlib.Nat.{mod-eq_of_lt, mul-le-mul}
use native.Mathlib.Omega.{arith}
use lib.Pow.{pow_mono}
use Rattle.space.specs.Levels.{most_along}
use Rattle.octree.proofs.along.Goals as goal

pub returns : goal.returns
returns c =
    let h : c.args.n * 2 ^ c.args.k ≤ most_along = mul-le-mul c.requires.0 (pow_mono c.requires.1) in
    mod-eq_of_lt (omega arith)

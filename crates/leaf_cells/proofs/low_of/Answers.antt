use mathlib.Core.Path.{◌≡◌, ap}
use Prim.Native.Nat.{ℕ, ◌*◌, ◌%◌}
use native.Mathlib.Omega.{arith}
use Rattle.vertex_keys.specs.Keys.{most_keys}
use Rattle.leaf_cells.specs.Parts.{low_in}
use Rattle.leaf_cells.proofs.Keys.{low_few}
use Rattle.leaf_cells.proofs.low_of.Goals as goal

pub returns : goal.returns
returns c =
    let e : c.args.leaf % most_keys * (2 * c.args.h) ≡ low_in c.args.leaf = ap (λ (n : ℕ). c.args.leaf % most_keys * (2 * n)) c.requires.1 in
    (e, omega (arith, low_few _ c.requires.0))

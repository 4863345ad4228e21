use Prim.Native.Nat.{ℕ, ◌^◌, ◌*◌, ◌-◌, ◌/◌}
use mathlib.Core.Path.{◌≡◌, ap, sym, ◌∙◌}
use native.Mathlib.Omega.{arith}
use Rattle.space.specs.Space.{pos}
use Rattle.space.specs.Levels.{size}
use Rattle.space.proofs.Levels.{Small, small, off_closed}
use Rattle.plan.specs.Step.{most_lattice}
use Rattle.plan.specs.Parts.{Few}
use Rattle.plan.proofs.count.Goals as goal

narrow : (nx ny nz levels w : ℕ) → Few nx ny nz levels → w ≡ 2 ^ levels → Small most_lattice (pos nx ny nz) w
narrow nx ny nz levels w few e = small (pos nx ny nz) few.dims_few e few.levels_few

pub overflow_mul-result-2 : goal.overflow_mul-result-2
overflow_mul-result-2 c = omega (arith, narrow _ _ _ _ _ c.requires c.width_of-w.ensures.value)

pub overflow_mul-result-5 : goal.overflow_mul-result-5
overflow_mul-result-5 c = omega (arith, narrow _ _ _ _ _ c.requires c.width_of-w.ensures.value)

pub returns : goal.returns
returns c =
    let a = c.args in
    let d = pos a.nx a.ny a.nz in
    ap (λ (w : ℕ). size d * ((w * w * w - 1) / 7)) c.width_of-w.ensures.value ∙ sym (off_closed d a.levels)

use Rattle.space.specs.Space.{Pos}
use native.Mathlib.Omega.{arith}
use mathlib.Core.Path.{◌∙◌, ◌≡◌}
use native.Mathlib.Nat.{one-mul}
use Prim.Native.Nat.{◌^◌, ℕ, ◌*◌, ◌≤◌}
use Rattle.space.specs.Levels.{most_roots, Counts, most_levels}
use Rattle.space.proofs.Levels.{Small, small}
use Rattle.octree.proofs.Levels.{level_is}
use Rattle.octree.proofs.level_at.Goals as goal

few : (d : Pos) (k w : ℕ) → Counts most_roots d → w ≡ 1 * 2 ^ k → k ≤ most_levels → Small most_roots d w
few d k w h e l = small d h.few (e ∙ one-mul (2 ^ k)) l

pub overflow_mul-result : goal.overflow_mul-result
overflow_mul-result c = omega (arith, few _ _ _ c.requires.0 c.along-w.ensures c.requires.1)

pub overflow_mul-result-2 : goal.overflow_mul-result-2
overflow_mul-result-2 c = omega (arith, few _ _ _ c.requires.0 c.along-w.ensures c.requires.1)

pub overflow_mul-result-5 : goal.overflow_mul-result-5
overflow_mul-result-5 c = omega (arith, few _ _ _ c.requires.0 c.along-w.ensures c.requires.1)

pub overflow_mul-result-6 : goal.overflow_mul-result-6
overflow_mul-result-6 c = omega (arith, few _ _ _ c.requires.0 c.along-w.ensures c.requires.1)

pub overflow_mul-result-7 : goal.overflow_mul-result-7
overflow_mul-result-7 c = omega (arith, few _ _ _ c.requires.0 c.along-w.ensures c.requires.1)

pub overflow_mul-result-8 : goal.overflow_mul-result-8
overflow_mul-result-8 c = omega (arith, few _ _ _ c.requires.0 c.along-w.ensures c.requires.1)

pub returns : goal.returns
returns c = level_is _ _ _ _ _ c.along-w.ensures

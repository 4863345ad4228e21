use native.Mathlib.Omega.{arith}
use Rattle.space.specs.Space.{ax, ay, az}
use Rattle.octants.proofs.Levels.{layer_few}
use Rattle.octree.proofs.below.Goals as goal

pub overflow_mul-result : goal.overflow_mul-result
overflow_mul-result c = omega (arith, layer_few c.requires.0)

pub overflow_mul-result-3 : goal.overflow_mul-result-3
overflow_mul-result-3 c = omega (arith, c.requires.0.few ax)

pub overflow_mul-result-4 : goal.overflow_mul-result-4
overflow_mul-result-4 c = omega (arith, c.requires.0.few ay)

pub overflow_mul-result-5 : goal.overflow_mul-result-5
overflow_mul-result-5 c = omega (arith, c.requires.0.few az)

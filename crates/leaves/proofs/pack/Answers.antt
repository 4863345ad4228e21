use native.Mathlib.Omega.{arith}
use Rattle.octree.specs.Parts.{place_of}
use Rattle.vertex_keys.proofs.Packing.{key_small}
use Rattle.leaves.proofs.pack.Goals as goal

pub overflow_add-result : goal.overflow_add-result
overflow_add-result c = omega (arith, c.pack-key.ensures, key_small (place_of c.args.o) c.requires.1)

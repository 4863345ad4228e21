use Prim.Native.Nat.{◌≤◌, ◌*◌}
use native.Mathlib.Omega.{arith}
use native.Mathlib.Nat.{mul-le-mul}
use Rattle.space.specs.Space.{ax, ay, az, Pos}
use Rattle.space.specs.Levels.{most_roots, Counts, size}
use Rattle.leaves.proofs.Walking.{going_start, going_root, going_on, going_done}
use Rattle.leaves.proofs.walk_roots.Goals as goal

record Few (n : Pos) : Type 0 where
  x : 1 ≤ n ax
  y : 1 ≤ n ay
  xy : n ax * n ay ≤ 64 * 64
  some : 1 * 1 ≤ n ax * n ay
  xyz : size n ≤ 64 * 64 * 64

few : {n : Pos} → Counts most_roots n → Few n
few c =
    let a = mul-le-mul (c.few ax) (c.few ay) in
    record { x = c.some ax; y = c.some ay; xy = a; some = mul-le-mul (c.some ax) (c.some ay); xyz = mul-le-mul a (c.few az) }

pub overflow_mul-roots : goal.overflow_mul-roots
overflow_mul-roots c = omega (arith, few c.requires.covers.roots)

pub overflow_mul-roots-2 : goal.overflow_mul-roots-2
overflow_mul-roots-2 c = omega (arith, few c.requires.covers.roots)

pub loop-n-init : goal.loop-n-init
loop-n-init c = going_start _ _ _

pub overflow_mul-root : goal.overflow_mul-root
overflow_mul-root c = omega (arith, few c.requires.covers.roots)

pub walk_octant-tally-requires : goal.walk_octant-tally-requires
walk_octant-tally-requires c = record { taken = c.requires; left = going_root _ _ _ _ _ _ c.loop-n.invariant (omega arith) c.requires }

pub loop-n-preserved : goal.loop-n-preserved
loop-n-preserved c = going_on _ _ _ _ _ _ c.loop-n.invariant (omega arith) c.walk_octant-tally.ensures

pub returns : goal.returns
returns c = going_done _ _ _ _ _ _ c.loop-n.invariant (omega arith)

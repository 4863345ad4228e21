use mathlib.Core.Path.{◌≡◌, ap}
use Prim.Native.Nat.{◌*◌}
use native.Mathlib.Omega.{arith}
use Rattle.octants.proofs.Levels.{rows_few}
use Rattle.octree.specs.Parts.{below_of}
use Rattle.octree.specs.declared.Level.{Level}
use Rattle.octree.proofs.Sweeping.{rows_end}
use Rattle.answers.proofs.Clearing.{cleared_more}
use Rattle.answers.proofs.clear_level.Goals as goal

many : (v : Level) {p : Level} → p ≡ below_of v → p.ny * p.nz ≡ (below_of v).ny * (below_of v).nz
many v e = ap (λ (p : Level). p.ny * p.nz) e

pub overflow_mul-r-end : goal.overflow_mul-r-end
overflow_mul-r-end c = omega (arith, many c.args.v c.below-p.ensures, rows_few c.requires.counts)

pub loop-r-preserved : goal.loop-r-preserved
loop-r-preserved c = cleared_more c.args.v _ (omega (arith, many c.args.v c.below-p.ensures, c.loop-r-test.true)) c.loop-r.invariant c.clear_row_at.ensures

pub returns : goal.returns
returns c = let p = below_of c.args.v in rows_end p.nx p.ny p.nz _ c.loop-r.invariant (omega (arith, many c.args.v c.below-p.ensures, c.loop-r.auto.r-end)) (omega (arith, many c.args.v c.below-p.ensures, c.loop-r-test.false))

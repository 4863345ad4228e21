use Prim.Native.Nat.{suc}
use native.Mathlib.Omega.{arith}
use Rattle.octants.proofs.TableLaws.{off_le}
use Rattle.octree.specs.Parts.{roots_of}
use Rattle.octree.proofs.Levels.{stacked}
use Rattle.answers.proofs.Clearing.{cleared_start, cleared_turn, cleared_end}
use Rattle.answers.proofs.clear.Goals as goal

pub loop-j-init : goal.loop-j-init
loop-j-init c = let p = c.requires in cleared_start _ _ _ p.1 p.0.octants p.2

pub clear_level-requires : goal.clear_level-requires
clear_level-requires c =
    let d = roots_of c.args.d in
    let p = c.requires.0 in
    let l = c.loop-j in
    stacked d l.j c.level_at.ensures p.roots (omega (arith, p.levels, l.invariant.few))
    (omega (arith, p.octants, l.invariant.long, off_le d (suc (suc l.j)) c.args.d.levels (omega (arith, c.loop-j-test.true))))

pub loop-j-preserved : goal.loop-j-preserved
loop-j-preserved c =
    let l = c.loop-j in
    cleared_turn _ _ _ l.j c.loop-j-test.true c.level_at.ensures c.clear_level.ensures l.invariant

pub returns : goal.returns
returns c = let l = c.loop-j in cleared_end _ _ _ _ l.j c.loop-j-test.false c.requires.0.octants l.invariant

use native.Mathlib.Omega.{arith}
use Prim.Native.Nat.{suc, ◌-◌}
use Rattle.octants.proofs.TableLaws.{off_le}
use Rattle.octree.specs.Parts.{roots_of}
use Rattle.balance.proofs.Levelling.{level_asked, balance_start, balance_turn, balance_end}
use Rattle.balance.proofs.balance.Goals as goal

pub loop-j-init : goal.loop-j-init
loop-j-init c = let p = c.requires in balance_start _ _ _ _ (omega (arith, p.1)) p.0.octants p.2

pub balance_level-requires : goal.balance_level-requires
balance_level-requires c =
    let d = roots_of c.args.d in
    let p = c.requires.0 in
    let l = c.loop-j in
    level_asked d (l.j - 1) c.level_at.ensures p.roots (omega (arith, p.levels, l.invariant.few))
    (omega (arith, p.octants, l.invariant.long, off_le d (suc (suc (l.j - 1))) c.args.d.levels (omega (arith, c.loop-j-test.true, l.invariant.few))))

pub loop-j-preserved : goal.loop-j-preserved
loop-j-preserved c = balance_turn _ _ _ c.loop-j.j (omega (arith, c.loop-j-test.true)) c.level_at.ensures c.balance_level.ensures c.loop-j.invariant

pub returns : goal.returns
returns c = balance_end _ _ _ _ _ c.loop-j-test.false c.requires.0.octants c.loop-j.invariant

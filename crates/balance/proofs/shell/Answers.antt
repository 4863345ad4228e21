use native.Mathlib.Omega.{arith}
use Rattle.space.specs.Space.{ay, az}
use Rattle.balance.proofs.Shells.{shell_asked, shell_tells}
use Rattle.balance.proofs.shell.Goals as goal

pub first_near-requires : goal.first_near-requires
first_near-requires c = omega (arith, c.requires.1.counts.few ay)

pub end_near-requires : goal.end_near-requires
end_near-requires c = omega (arith, c.requires.1.counts.few ay)

pub first_near-requires-2 : goal.first_near-requires-2
first_near-requires-2 c = omega (arith, c.requires.1.counts.few az)

pub end_near-requires-2 : goal.end_near-requires-2
end_near-requires-2 c = omega (arith, c.requires.1.counts.few az)

pub merge_layers-requires : goal.merge_layers-requires
merge_layers-requires c =
    let p = c.requires in
    rw c.below-p.ensures (shell_asked c.args.s.now c.args.v _ _ c.first_near.ensures c.end_near.ensures c.first_near-2.ensures c.end_near-2.ensures p.0 p.1 p.2 p.3)

pub returns : goal.returns
returns c =
    shell_tells c.args.s.now c.args.v _ _ c.first_near.ensures c.end_near.ensures c.first_near-2.ensures c.end_near-2.ensures c.requires.0 (rw c.below-p.ensures at c.merge_layers.ensures)

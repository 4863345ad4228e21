use mathlib.Core.Path.{◌∙◌}
use Rattle.tape.proofs.Digesting.{digest_on, digest_end}
use Rattle.tape.proofs.digest.entries.Goals as goal

pub loop-x-preserved : goal.loop-x-preserved
loop-x-preserved g c =
    rw (c.number-d.ensures, c.number.ensures) (digest_on g.T.Entry.itself _ _ _ _ c.loop-x-test.true c.x-item.is ∙ c.loop-x.invariant)

pub returns : goal.returns
returns g c = digest_end g.T.Entry.itself _ _ _ c.loop-x-test.false ∙ c.loop-x.invariant

use Rattle.links.proofs.Linking.{join_low, join_high}
use Rattle.links.proofs.join_roots.Goals as goal

pub returns-then-a-b : goal.returns-then-a-b
returns-then-a-b c =
    let r = c.root-a in
    let r2 = c.root-b in
    join_low _ r.new.parent r2.new.parent _ _ r.result r2.result r.ensures r2.ensures r2.auto.parent c.if-a-b.true

pub returns-else-a-b : goal.returns-else-a-b
returns-else-a-b c =
    let r = c.root-a in
    let r2 = c.root-b in
    join_high _ r.new.parent r2.new.parent _ _ r.result r2.result r.ensures r2.ensures r2.auto.parent c.if-a-b.false

use native.Mathlib.Omega.{arith}
use Rattle.links.proofs.Linking.{join_same, join_first, join_second}
use Rattle.links.proofs.join.Goals as goal

pub returns-then-p-q : goal.returns-then-p-q
returns-then-p-q c = let p = c.requires in join_same _ _ _ p.forest p.x_in p.y_in c.if-p-q.true

pub returns-then-p-x : goal.returns-then-p-x
returns-then-p-x c =
    let p = c.requires in
    let own = c.if-p-x.true in
    join_first _ _ _ p.forest p.x_in p.y_in own (omega (arith, own, c.if-q-p.true))

pub returns-then-q-y : goal.returns-then-q-y
returns-then-q-y c =
    let p = c.requires in
    let own = c.if-q-y.true in
    join_second _ _ _ p.forest p.x_in p.y_in own (omega (arith, own, c.if-q-p.false, c.if-p-q.false))

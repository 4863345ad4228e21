use borrow.Author.Tests.{eq-eqb, ne_eqb}
use Rattle.links.specs.Parts.{one_parent}
use Rattle.links.proofs.is_joined.Goals as goal

pub returns-then-p-q : goal.returns-then-p-q
unfolding one_parent
returns-then-p-q c = rw (ne_eqb _ _ c.if-p-q.true)

pub returns-then-p-r : goal.returns-then-p-r
unfolding one_parent
returns-then-p-r c = rw (eq-eqb _ _ c.if-p-q.false, ne_eqb _ _ c.if-p-r.true)

pub returns : goal.returns
unfolding one_parent
returns c = rw (eq-eqb _ _ c.if-p-q.false, eq-eqb _ _ c.if-p-r.false)

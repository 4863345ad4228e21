use Rattle.marked.specs.Parts.{ordered}
use borrow.Author.Tests.{eq-eqb, ne_eqb}
use Rattle.marked.proofs.order.Goals as goal

pub returns-then-code-eq1 : goal.returns-then-code-eq1
unfolding ordered
returns-then-code-eq1 c = rw (eq-eqb _ _ c.if-code-eq1.true)

pub returns : goal.returns
unfolding ordered
returns c = rw (ne_eqb _ _ c.if-code-eq1.false) c.exchange.ensures

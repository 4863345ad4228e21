use mathlib.Core.Path.{sym, ◌∙◌}
use Rattle.decimal.proofs.Texts.{text_on, text_off, text_ends, text_done}
use Rattle.decimal.proofs.text.Goals as goal

pub returns-then-file-q : goal.returns-then-file-q
returns-then-file-q c = sym (c.loop-x.invariant ∙ text_ends _ _ _ _ c.loop-x-test.true c.if-file-q.true)

pub returns-then-file-q-2 : goal.returns-then-file-q-2
returns-then-file-q-2 c = sym (c.loop-x.invariant ∙ text_off _ _ _ _ c.loop-x-test.true c.if-file-q.false c.if-file-q-2.true)

pub loop-x-preserved : goal.loop-x-preserved
loop-x-preserved c = c.loop-x.invariant ∙ text_on _ _ _ _ c.loop-x-test.true c.if-file-q.false c.if-file-q-2.false

pub returns : goal.returns
returns c = sym (c.loop-x.invariant ∙ text_done _ _ _ _ c.loop-x-test.false)

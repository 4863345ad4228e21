use mathlib.Core.Path.{refl}
use Rattle.words.proofs.Turns.{writing_on, writing_done}
use Rattle.words.proofs.put_words.Goals as goal

pub loop-i-preserved : goal.loop-i-preserved
loop-i-preserved c = writing_on _ _ _ _ _ _ c.loop-i.invariant c.loop-i-test.true refl c.put_word.ensures

pub returns : goal.returns
returns c = writing_done _ _ _ _ _ _ c.loop-i.invariant c.loop-i-test.false

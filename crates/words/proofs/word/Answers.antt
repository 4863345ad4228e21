use mathlib.Core.Path.{◌∙◌}
use Rattle.words.specs.Words.{word_at}
use Rattle.words.proofs.Words.{low_word, high_word}
use Rattle.words.proofs.word.Goals as goal

pub returns-then-big : goal.returns-then-big
unfolding word_at
returns-then-big c = rw c.if-big.true (c.from_be_bytes.ensures ∙ high_word _ _ _ _)

pub returns : goal.returns
unfolding word_at
returns c = rw c.if-big.false (c.from_le_bytes.ensures ∙ low_word _ _ _ _)

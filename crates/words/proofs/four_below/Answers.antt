use Rattle.lists.specs.Tables.{list_of}
use Rattle.words.specs.Words.{words_at}
use Rattle.words.proofs.Turns.{four_tests}
use Rattle.words.proofs.four_below.Goals as goal

pub returns : goal.returns
unfolding words_at list_of
returns c = simp c.quad_at.ensures (four_tests _ _ _ _ _)

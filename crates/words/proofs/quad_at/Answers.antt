use native.Mathlib.Nat.{add-zero}
use Rattle.lists.specs.Tables.{list_of}
use Rattle.words.specs.Words.{words_at}
use Rattle.words.proofs.quad_at.Goals as goal

pub returns : goal.returns
unfolding words_at list_of
returns c = rw (c.word-a.ensures, c.word-b.ensures, c.word-c.ensures, c.word-d.ensures, add-zero c.args.at)

use native.Mathlib.Omega.{arith}
use Rattle.lists.proofs.Listing.{filling_done}
use Rattle.words.specs.Words.{words_at}
use Rattle.words.proofs.get_words.Goals as goal

pub returns : goal.returns
unfolding words_at
returns c = filling_done _ c.loop-i.invariant (omega (arith, c.loop-i.invariant.long))

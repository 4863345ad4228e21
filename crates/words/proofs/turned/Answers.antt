use mathlib.Core.Path.{refl, ◌∙◌}
use native.Mathlib.Omega.{arith}
use Rattle.words.specs.Parts.{turned_of}
use Rattle.words.proofs.Words.{swapped}
use Rattle.words.proofs.turned.Goals as goal

pub returns-then-big : goal.returns-then-big
returns-then-big c = rw c.if-big.true (c.swap_bytes.ensures ∙ swapped _ (omega arith))

pub returns : goal.returns
unfolding turned_of
returns c = rw c.if-big.false refl

use mathlib.Core.Path.{◌∙◌}
use Rattle.lists.proofs.Tests.{told}
use Rattle.sides.proofs.Laws.{either_first, either_second}
use Rattle.sides.proofs.either_in.Goals as goal

pub returns-then-split_in : goal.returns-then-split_in
returns-then-split_in c = either_first _ _ _ _ _ _ (told c.split_in.ensures c.if-split_in.true)

pub returns : goal.returns
returns c = c.split_in-2.ensures ∙ either_second _ _ _ _ _ _ (told c.split_in.ensures c.if-split_in.false)

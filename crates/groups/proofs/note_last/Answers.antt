use mathlib.Core.Path.{refl}
use borrow.Author.Tests.{eqb-true}
use Rattle.lists.proofs.Tests.{passed}
use Rattle.groups.proofs.note_last.Goals as goal

pub returns : goal.returns
returns c = record { crossed = λ d. absurd (d (eqb-true _ _ (passed c.is_free.ensures c.if-not-is_free.false))); noted = λ z. refl }

use mathlib.Core.Path.{refl}
use native.Mathlib.Omega.{arith}
use borrow.Author.Tests.{eqb-true}
use Rattle.lists.proofs.Tests.{passed}
use Rattle.groups.proofs.Noting.{root_noted}
use Rattle.groups.proofs.note_root.Goals as goal

pub returns : goal.returns
returns c = root_noted _ _ _ _ _ _ (omega (arith, c.requires.sized.long)) c.root-root.auto.parent refl c.root-root.ensures (eqb-true _ _ (passed c.is_free.ensures c.if-not-is_free.false))

use mathlib.Core.Path.{refl}
use Rattle.lists.proofs.Tests.{passed}
use Rattle.pieces.proofs.Joining.{is_joined}
use Rattle.pieces.proofs.join_next.Goals as goal

pub returns : goal.returns
returns c = is_joined _ _ _ _ c.requires _ _ refl refl (passed c.same_face.ensures c.if-not-same_face.false) c.join.new.parent c.join.auto.parent c.join.ensures

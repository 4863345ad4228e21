use mathlib.Core.Path.{◌∙◌}
use Rattle.lists.proofs.Tests.{failed, passed}
use Rattle.keep.specs.Marked.{crust_mark}
use Rattle.keep.specs.Parts.{cover_in}
use Rattle.keep.proofs.Marking.{as_bit}
use Rattle.keep.proofs.cover_mark.Goals as goal

pub returns-then-not-is_free : goal.returns-then-not-is_free
unfolding cover_in crust_mark
returns-then-not-is_free c = rw (failed c.is_free.ensures c.if-not-is_free.true)

pub returns : goal.returns
unfolding cover_in crust_mark
returns c =
    rw (passed c.is_free.ensures c.if-not-is_free.false, ← c.label_at-label.ensures) (c.from.ensures ∙ as_bit _)

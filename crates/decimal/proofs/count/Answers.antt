use mathlib.Core.Path.{refl, sym, ap, ◌∙◌}
use Rattle.std.specs.Prelude.{Ok}
use Rattle.lists.proofs.Tests.{failed, passed}
use Rattle.decimal.proofs.Counts.{count_ends, count_off, count_zero, count_more}
use Rattle.decimal.proofs.count.Goals as goal

pub returns-then-file-at : goal.returns-then-file-at
returns-then-file-at c = count_ends _ _ c.if-file-at.true

pub returns-then-not-is_ascii_digit : goal.returns-then-not-is_ascii_digit
returns-then-not-is_ascii_digit c = count_off _ _ _ c.if-file-at.false refl (failed c.is_ascii_digit.ensures.value c.if-not-is_ascii_digit.true)

pub returns-then-byte-eq48 : goal.returns-then-byte-eq48
returns-then-byte-eq48 c = count_zero _ _ _ c.if-file-at.false refl c.if-byte-eq48.true

pub returns : goal.returns
returns c =
    ap Ok c.more_digits.ensures ∙ rw (c.from.ensures) (sym (count_more _ _ _ c.if-file-at.false refl (passed c.is_ascii_digit.ensures.value c.if-not-is_ascii_digit.false) c.if-byte-eq48.false))

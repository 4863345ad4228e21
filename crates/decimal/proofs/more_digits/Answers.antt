use Rattle.lists.proofs.Tests.{failed, passed}
use Rattle.decimal.proofs.Counts.{counting_on, counting_off, counting_ends, counting_done}
use Rattle.decimal.proofs.more_digits.Goals as goal

pub loop-preserved : goal.loop-preserved
loop-preserved c = rw c.from.ensures (counting_on _ _ _ _ _ _ c.loop.invariant c.loop-test.true (passed c.is_ascii_digit.ensures.value c.if-not-is_ascii_digit.false))

pub returns-then-file-next : goal.returns-then-file-next
returns-then-file-next c = counting_ends _ _ _ _ _ _ c.loop.invariant c.if-file-next.true

pub returns-then-not-is_ascii_digit : goal.returns-then-not-is_ascii_digit
returns-then-not-is_ascii_digit c = counting_off _ _ _ _ _ _ c.loop.invariant (failed c.is_ascii_digit.ensures.value c.if-not-is_ascii_digit.true)

pub returns-after-loop : goal.returns-after-loop
returns-after-loop c = counting_done _ _ _ _ _ _ c.loop.invariant c.loop-test.false
